use Rattle.std.proofs.Common.{◌≡◌, ◌<◌, ◌-◌, ℕ, true, false, length}
use Rattle.bit_sets.specs.Rows.{row_has}
use Rattle.implied_literals.specs.Rows.{clause_in}
use Rattle.implied_literals.proofs.again.find_lacking.Given as goal

abbrev pub invariant-loop-k : goal.invariant-loop-k
invariant-loop-k l = (k m : ℕ) → k < l.from → row_has l.asked k ≡ true → row_has l.lacking k ≡ false → row_has l.lits m ≡ true → clause_in l.rows k m ≡ true

abbrev pub decreases-loop-k : goal.decreases-loop-k
decreases-loop-k l = length l.rows - l.from
