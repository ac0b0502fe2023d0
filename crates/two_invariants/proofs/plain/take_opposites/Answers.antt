use Rattle.std.proofs.Common.{◌∙◌, ◌==◌, ◌&&◌, not, ap, ℕ}
use Rattle.bit_sets.specs.Rows.{row_has}
use Rattle.gt_core.specs.Literal.{opposite}
use Rattle.gt_core.specs.Task.{Effect}
use Rattle.implied_literals.specs.Breaks.{is_add}
use Rattle.two_invariants.proofs.Grouping.{lost_more}
use Rattle.two_invariants.proofs.plain.take_opposites.Goals as goal

pub loop-effect-preserved : goal.loop-effect-preserved
loop-effect-preserved c m =
    lost_more (λ (e : Effect). (opposite e.literal == m) && not (is_add m && row_has c.args.given.now m)) c.args.effects.now c.loop-effect.effect-index c.effect-item.result
    (row_has c.loop-effect.sure m) (row_has c.take_one.new.sure m) c.loop-effect-test.true c.effect-item.is
    (c.take_one.ensures m ∙ ap (λ (k : ℕ). row_has c.loop-effect.sure m && not ((k == m) && not (is_add m && row_has c.args.given.now m))) (c.opposite.ensures ∙ ap opposite c.lit.ensures))
    ∙ c.loop-effect.invariant m
