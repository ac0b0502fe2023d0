use Rattle.std.proofs.Common.{◌≡◌, ◌≤◌, ◌/◌, ◌<◌, ℕ, false}
use Rattle.bit_sets.specs.Rows.{row_has}
use Rattle.bit_sets.proofs.row.are_zero.Given as goal

abbrev pub invariant-loop-i : goal.invariant-loop-i
invariant-loop-i l = (k : ℕ) → l.from ≤ k / 64 → k / 64 < l.i → row_has l.words k ≡ false
