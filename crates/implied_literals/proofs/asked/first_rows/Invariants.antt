use Rattle.std.proofs.Common.{◌≡◌, ◌<◌, ℕ, true, false, length}
use Rattle.bit_sets.specs.Rows.{row_has}
use Rattle.implied_literals.specs.Rows.{row_at, clause_in, HasNoPair}
use Rattle.implied_literals.proofs.asked.first_rows.Given as goal

abbrev pub invariant-loop-l : goal.invariant-loop-l
invariant-loop-l l = record {
  long : length l.rows.items ≡ l.l;
  asked : (k : ℕ) → k < l.l → row_has l.asked k ≡ true → HasNoPair (row_has (row_at l.rows.items k)) → ⊥;
  other : (k : ℕ) → k < l.l → row_has l.asked k ≡ false → (m : ℕ) → clause_in l.rows.items k m ≡ false;
}
