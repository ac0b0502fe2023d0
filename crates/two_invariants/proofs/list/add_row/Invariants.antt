use Rattle.std.proofs.Common.{◌≡◌, ◌||◌, ◌*◌, ◌-◌, ◌≤◌, ℕ}
use Rattle.gt_core.specs.Interference.{has_clause}
use Rattle.gt_core.specs.Clauses.{IsKnownClauses}
use Rattle.two_invariants.specs.own.Listed.{is_from}
use Rattle.two_invariants.proofs.list.add_row.Given as goal

abbrev pub invariant-loop-m : goal.invariant-loop-m
invariant-loop-m l = record {
  facts : l.pairs.facts ≡ l.facts;
  lawful : IsKnownClauses l.pairs;
  low : l.l ≤ l.from;
  has : (a b : ℕ) → has_clause l.pairs.clauses a b ≡ (has_clause l.initial.pairs.clauses a b || is_from l.row l.l l.from a b);
}

abbrev pub decreases-loop-m : goal.decreases-loop-m
decreases-loop-m l = 2 * l.facts - l.from
