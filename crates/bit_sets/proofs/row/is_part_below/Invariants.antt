use Rattle.std.proofs.Common.{◌≡◌, ◌/◌, ◌<◌, ℕ, true}
use Rattle.bit_sets.specs.Rows.{row_has}
use Rattle.bit_sets.proofs.row.is_part_below.Given as goal

abbrev pub invariant-loop-i : goal.invariant-loop-i
invariant-loop-i l = (k : ℕ) → k / 64 < l.i → row_has l.words k ≡ true → row_has l.others k ≡ true
