use Rattle.std.proofs.Common.{◌≡◌, ◌&&◌, ℕ, not, drop}
use Rattle.bit_sets.specs.Rows.{row_has}
use Rattle.action_order.specs.own.Edges.{is_opposed}
use Rattle.action_order.proofs.edges.take_out_opposed.Given as goal

abbrev pub invariant-loop-lit : goal.invariant-loop-lit
invariant-loop-lit l =
    (b : ℕ) → (row_has l.initial.row b && not (is_opposed l.rows l.lits b))
    ≡ (row_has l.row b && not (is_opposed l.rows (drop l.lit-index l.lits) b))
