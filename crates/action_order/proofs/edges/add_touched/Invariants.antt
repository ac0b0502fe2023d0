use Rattle.std.proofs.Common.{◌≡◌, ◌||◌, ℕ, drop}
use Rattle.bit_sets.specs.Rows.{row_has}
use Rattle.action_order.specs.own.Edges.{is_touched}
use Rattle.action_order.proofs.edges.add_touched.Given as goal

abbrev pub invariant-loop-effect : goal.invariant-loop-effect
invariant-loop-effect l =
    (b : ℕ) → (row_has l.initial.row b || is_touched l.needing l.asking l.effects b)
    ≡ (row_has l.row b || is_touched l.needing l.asking (drop l.effect-index l.effects) b)
