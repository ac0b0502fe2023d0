use Rattle.std.proofs.Common.{◌≡◌, ◌==◌, ◌||◌, ℕ, drop}
use Rattle.std.specs.List.{list_any}
use Rattle.bit_sets.specs.Rows.{row_has}
use Rattle.implied_literals.proofs.asked.insert_all.Given as goal

abbrev pub invariant-loop-lit : goal.invariant-loop-lit
invariant-loop-lit l = (k : ℕ) → (row_has l.row k || list_any (λ x. x == k) (drop l.lit-index l.lits)) ≡ (row_has l.initial.row k || list_any (λ x. x == k) l.lits)
