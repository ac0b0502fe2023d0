use Rattle.std.proofs.Common.{◌||◌, ◌+◌, Bool, ℕ, drop, ap, sym, ◌∙◌}
use Rattle.std.proofs.Math.Bool.{or_assoc}
use Rattle.bit_sets.specs.Rows.{row_has}
use Rattle.gt_core.specs.Task.{Effect}
use Rattle.action_order.specs.own.Edges.{is_reader, is_touched}
use Rattle.action_order.proofs.GrowLaw.{any_left}
use Rattle.action_order.proofs.edges.add_touched.Goals as goal

pub loop-effect-preserved : goal.loop-effect-preserved
loop-effect-preserved c = λ b.
    let needing = c.args.needing.now in
    let asking = c.args.asking.now in
    let effects = c.args.effects.now in
    let i = c.loop-effect.effect-index in
    let e = c.effect-item.result in
    let row = c.loop-effect.row in
    let rest = is_touched needing asking (drop (i + 1) effects) b in
    c.loop-effect.invariant b
    ∙ ap (λ (t : Bool). row_has row b || t) (any_left (λ (x : Effect). is_reader needing asking x.literal b) effects i e c.loop-effect-test.true c.effect-item.is)
    ∙ sym (or_assoc (row_has row b) (is_reader needing asking e.literal b) rest)
    ∙ ap (λ (t : Bool). t || rest) (sym (c.in_ok-add_readers.ensures b ∙ ap (λ (l : ℕ). row_has row b || is_reader needing asking l b) c.lit.ensures))
