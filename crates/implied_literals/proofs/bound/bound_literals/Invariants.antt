use Rattle.std.proofs.Common.{◌≡◌, ◌<◌, ℕ, true}
use Rattle.bit_sets.specs.Rows.{row_has}
use Rattle.gt_core.specs.Literal.{opposite}
use Rattle.implied_literals.specs.Rows.{clause_in}
use Rattle.implied_literals.proofs.bound.bound_literals.Given as goal

abbrev pub invariant-loop-l : goal.invariant-loop-l
invariant-loop-l l = (k m : ℕ) → k < l.l → clause_in l.clauses k m ≡ true → (row_has l.bound.literals k ≡ true) × (row_has l.bound.opposites (opposite k) ≡ true)
