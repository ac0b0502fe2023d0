use Rattle.std.proofs.Common.{◌==◌, ◌||◌, ℕ, Bool, sym, ap, ◌∙◌, take}
use Rattle.gt_core.specs.Task.{Effect}
use Rattle.gt_core.specs.Interference.{action_may_make}
use Rattle.action_order.specs.own.Readers.{of_effects}
use Rattle.action_order.proofs.GrowLaw.{any_more}
use Rattle.action_order.proofs.sure.collect_literals.Goals as goal

pub loop-effect-preserved : goal.loop-effect-preserved
loop-effect-preserved c k =
    let i = c.loop-effect.effect-index in
    let effects = c.args.effects.now in
    c.in_ok-insert.ensures.has k
    ∙ ap (λ (t : Bool). (c.lit.result == k) || t) (c.loop-effect.invariant k)
    ∙ ap (λ (n : ℕ). (n == k) || action_may_make (of_effects (take i effects)) k) (c.lit.ensures ∙ ap (λ (e : Effect). e.literal) c.effect-item.is)
    ∙ sym (any_more (λ e. e.literal == k) effects i c.effect-item.result c.loop-effect-test.true)
