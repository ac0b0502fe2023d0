use Rattle.std.proofs.Common.{◌≡◌, ◌||◌, ℕ, drop}
use Rattle.std.specs.List.{list_any}
use Rattle.bit_sets.specs.Rows.{row_has}
use Rattle.implied_literals.specs.Rows.{row_at}
use Rattle.implied_literals.specs.Tested.{with_more}
use Rattle.implied_literals.proofs.known.fill_with.Given as goal

abbrev pub invariant-loop-lit : goal.invariant-loop-lit
invariant-loop-lit l = (m : ℕ) → (row_has l.row m || list_any (λ k. row_has (row_at l.rows k) m) (drop l.lit-index l.lits)) ≡ with_more l.rows (row_has l.set) l.lits m
