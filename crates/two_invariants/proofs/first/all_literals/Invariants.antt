use Rattle.std.proofs.Common.{◌≡◌, ℕ}
use Rattle.std.specs.Prelude.{nat_lt}
use Rattle.bit_sets.specs.Rows.{row_has}
use Rattle.two_invariants.proofs.first.all_literals.Given as goal

abbrev pub invariant-loop-l : goal.invariant-loop-l
invariant-loop-l l = (m : ℕ) → row_has l.row m ≡ nat_lt m l.l
