use Rattle.std.proofs.Common.{◌≡◌, List, length, sym, subst, rules}
use Rattle.pd_model.specs.declared.effects.Effect.{Effect}
use Rattle.pd_model.specs.Sameness.{IsSame, AreSame, last_under, no_under, under_of}
use Rattle.pd_model.proofs.published.Marks.{marked_next, marked_waiting}
use Rattle.pd_model.proofs.effects.Effects.push.Goals as goal

pub invariant_of-self-in_err-push-2 : goal.invariant_of-self-in_err-push-2
invariant_of-self-in_err-push-2 c =
    let long : c.len.result ≡ length c.self.inside.items.items = search rules in
    subst (λ (es : List Effect). AreSame no_under es c.push.new.self.items) (sym c.in_err-push-2.ensures.items)
    (marked_waiting no_under c.self.inside.items.items c.self.inside.marks.items c.truncate.new.self.items c.push.new.self.items c.args.same c.len.result c.self.invariant long c.truncate.ensures.items c.in_ok-push.ensures.items)

pub invariant_of-self-2 : goal.invariant_of-self-2
invariant_of-self-2 c =
    let long : c.len.result ≡ length c.self.inside.items.items = search rules in
    let same = subst (λ (es : List Effect). IsSame (last_under no_under es) (under_of c.args.effect) c.args.same) (sym c.self.view_is) c.requires in
    marked_next no_under c.self.inside.items.items c.push-2.new.self.items c.self.inside.marks.items c.truncate.new.self.items c.push.new.self.items c.args.effect c.args.same c.len.result c.self.invariant same long c.truncate.ensures.items c.in_ok-push.ensures.items c.in_ok-push-2.ensures.items
