use Rattle.std.proofs.Common.{◌≡◌, ◌==◌, ◌<◌, ◌≤◌, ◌-◌, ◌*◌, ℕ, true, false, length}
use Rattle.bit_sets.specs.Rows.{row_has}
use Rattle.implied_literals.specs.Rows.{row_at, clause_in, IsClosure}
use Rattle.implied_literals.proofs.renew.renew_rows.Given as goal

abbrev pub invariant-loop-x : goal.invariant-loop-x
invariant-loop-x l = record {
  long : length l.rows.items ≡ 2 * l.rules.facts;
  done : (k : ℕ) → row_has l.rules.asked.now k ≡ true → k < l.from → IsClosure (clause_in l.rules.clauses.now) (λ m. k == m) (row_has (row_at l.rows.items k));
  left : (k : ℕ) → l.from ≤ k → row_at l.rows.items k ≡ row_at l.initial.rows.items k;
  others : (k : ℕ) → row_has l.rules.asked.now k ≡ false → row_at l.rows.items k ≡ row_at l.initial.rows.items k;
  same : (k : ℕ) → row_has l.moved k ≡ false → row_at l.rows.items k ≡ row_at l.initial.rows.items k;
}

abbrev pub decreases-loop-x : goal.decreases-loop-x
decreases-loop-x l = 2 * l.rules.facts - l.from
