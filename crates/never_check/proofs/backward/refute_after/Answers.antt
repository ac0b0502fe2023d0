use Rattle.std.proofs.Common.{[], List, ℕ, subst}
use Rattle.std.specs.Prelude.{MatchBool}
use Rattle.never_check.specs.Verdicts.{AreRefuted, HasLeast}
use Rattle.never_check.proofs.Least.{base_least}
use Rattle.never_check.proofs.Stepping.{sure_told}
use Rattle.never_check.proofs.backward.refute_after.Goals as goal

pub returns-clause-told : goal.returns-clause-told
returns-clause-told c =
    let whole = c.args.whole.now in
    let b = c.in_ok-refuted.refuted in
    let told : MatchBool b (AreRefuted whole c.deref.result.now) (HasLeast whole c.deref.result.now) = c.in_ok-refuted.ensures.told [] (base_least whole c.args.after.now c.requires.base) in
    sure_told whole c.args.act.now c.args.before.now c.in_ok-sure.sure.items c.in_ok-sure.ensures.sure c.in_ok-sure.ensures.all b (subst (λ (ls : List ℕ). MatchBool b (AreRefuted whole ls) (HasLeast whole ls)) c.deref.ensures.value told)
