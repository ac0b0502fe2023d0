use Rattle.std.proofs.Common.{◌≡◌, ◌&&◌, ◌||◌, ℕ}
use Rattle.std.specs.Prelude.{nat_lt}
use Rattle.gt_core.specs.Interference.{has_clause}
use Rattle.gt_core.specs.Clauses.{IsKnownClauses}
use Rattle.implied_literals.specs.Rows.{clause_in}
use Rattle.two_invariants.proofs.list.list_clauses.Given as goal

abbrev pub invariant-loop-l : goal.invariant-loop-l
invariant-loop-l l = record {
  facts : l.pairs.facts ≡ l.facts;
  lawful : IsKnownClauses l.pairs;
  has : (a b : ℕ) → has_clause l.pairs.clauses a b ≡ (clause_in l.rows a b && (nat_lt a l.l || nat_lt b l.l));
}
