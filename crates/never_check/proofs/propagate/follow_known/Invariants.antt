use Rattle.std.proofs.Common.{◌≡◌, ℕ, ◌≤◌, ◌<◌, ◌-◌, [], true}
use Rattle.gt_core.specs.Literal.{opposite, is_in}
use Rattle.gt_core.specs.Interference.{has_clause}
use Rattle.implied_literals.specs.Known.{IsFull}
use Rattle.never_check.specs.Follow.{IsGrown}
use Rattle.never_check.proofs.propagate.follow_known.Given as goal

abbrev pub invariant-row : goal.invariant-row
invariant-row l = record {
  facts : l.trail.facts ≡ l.initial.trail.facts;
  within : l.from ≤ l.top;
  grown : IsGrown (IsFull (has_clause l.known.clauses) []) l.initial.trail.literals l.trail.literals;
  told : (y : ℕ) → y < l.from → has_clause l.known.clauses (opposite l.lit) y ≡ true → is_in l.trail.literals y ≡ true;
}

abbrev pub decreases-row : goal.decreases-row
decreases-row l = l.top - l.from
