use Rattle.std.proofs.Common.{◌≡◌, ◌∙◌, ℕ, List, [], sym, subst, true}
use Rattle.std.specs.Prelude.{slice_index_or}
use Rattle.std.specs.List.{AllByRecursion}
use Rattle.std.proofs.lemmas.List.{take_all}
use Rattle.gt_core.specs.Literal.{is_in}
use Rattle.gt_core.specs.Task.{Effect}
use Rattle.never_check.specs.BackwardVerdicts.{IsStepRefuted, ArePassedBackward, FailsBackward}
use Rattle.never_check.proofs.Grown.{none_told}
use Rattle.never_check.proofs.Forwarding.{some_way}
use Rattle.never_check.proofs.Stepping.{one_step_fails, all_stepped}
use Rattle.never_check.proofs.Turns.{each_next, item_among}
use Rattle.never_check.proofs.backward.check_effects.Goals as goal

pub returns-then-is_some-clause-told : goal.returns-then-is_some-clause-told
returns-then-is_some-clause-told c =
    let whole = c.args.step.now.sides.now.whole.now in
    let x = c.args.step.now.act.now in
    let mine = item_among c.effects-effect-items.result.now x.effects c.loop-effect.effect-index c.effect-item.result c.loop-effect-test.true c.effect-item.is c.effects-effect-items.ensures in
    some_way _ (ArePassedBackward whole x) _ (FailsBackward whole x) c.in_ok-found.found (sym c.is_some.ensures ∙ c.if-is_some.true)
    (λ k t. one_step_fails whole x c.effect-item.result k c.requires.step.sides.whole.uses mine (t.0, subst (λ (l : ℕ). is_in (slice_index_or whole.uses.now l []) k ≡ true) c.lit.ensures t.1, t.2)) c.in_ok-found.ensures.told

pub loop-effect-preserved : goal.loop-effect-preserved
loop-effect-preserved c =
    let whole = c.args.step.now.sides.now.whole.now in
    let told = none_told _ c.in_ok-found.found (sym c.is_some.ensures ∙ c.if-is_some.false) c.in_ok-found.ensures.told in
    record {
      before = c.in_ok-found.ensures.before ∙ c.loop-effect.invariant.before;
      after = c.in_ok-found.ensures.after ∙ c.loop-effect.invariant.after;
      all =
          each_next (λ (e : Effect). (k : ℕ) → is_in (slice_index_or whole.uses.now e.literal []) k ≡ true → IsStepRefuted whole c.args.step.now.act.now k) c.effects-effect-items.result.now c.loop-effect.effect-index c.effect-item.result c.loop-effect-test.true c.effect-item.is c.loop-effect.invariant.all
          (λ k i. told k (subst (λ (l : ℕ). is_in (slice_index_or whole.uses.now l []) k ≡ true) (sym c.lit.ensures) i));
    }

pub returns-clause-told : goal.returns-clause-told
returns-clause-told c =
    let whole = c.args.step.now.sides.now.whole.now in
    all_stepped whole c.args.step.now.act.now c.requires.step.sides.whole.uses
    (subst (λ (es : List Effect). AllByRecursion (λ e. (k : ℕ) → is_in (slice_index_or whole.uses.now e.literal []) k ≡ true → IsStepRefuted whole c.args.step.now.act.now k) es) (take_all c.loop-effect.effect-index c.effects-effect-items.result.now c.loop-effect-test.false ∙ c.effects-effect-items.ensures) c.loop-effect.invariant.all)
