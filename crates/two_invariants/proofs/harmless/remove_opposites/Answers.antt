use Rattle.std.proofs.Common.{◌∙◌, ◌==◌, ◌&&◌, not, ap, ℕ}
use Rattle.std.proofs.Math.Bool.{and_comm}
use Rattle.bit_sets.specs.Rows.{row_has}
use Rattle.gt_core.specs.Literal.{opposite}
use Rattle.gt_core.specs.Task.{Effect}
use Rattle.two_invariants.proofs.Grouping.{lost_more}
use Rattle.two_invariants.proofs.harmless.remove_opposites.Goals as goal

pub loop-effect-preserved : goal.loop-effect-preserved
loop-effect-preserved c m =
    lost_more (λ (e : Effect). opposite e.literal == m) c.args.effects.now c.loop-effect.effect-index c.effect-item.result
    (row_has c.loop-effect.set m) (row_has c.remove.new.self m) c.loop-effect-test.true c.effect-item.is
    (c.remove.ensures.has m ∙ ap (λ (k : ℕ). not (k == m) && row_has c.loop-effect.set m) (c.opposite.ensures ∙ ap opposite c.lit.ensures) ∙ and_comm (not (opposite c.effect-item.result.literal == m)) (row_has c.loop-effect.set m))
    ∙ c.loop-effect.invariant m
