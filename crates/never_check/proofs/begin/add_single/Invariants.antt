use Rattle.std.proofs.Common.{◌≡◌, ℕ, ◌<◌, true}
use Rattle.gt_core.specs.Literal.{is_in}
use Rattle.gt_core.specs.Interference.{has_clause}
use Rattle.never_check.specs.Follow.{IsGrown}
use Rattle.never_check.proofs.begin.add_single.Given as goal

abbrev pub invariant-loop-lit : goal.invariant-loop-lit
invariant-loop-lit l = record {
  facts : l.trail.facts ≡ l.initial.trail.facts;
  grown : IsGrown (λ set. (m : ℕ) → has_clause l.known.clauses m m ≡ true → set m ≡ true) l.initial.trail.literals l.trail.literals;
  told : (m : ℕ) → m < l.lit → has_clause l.known.clauses m m ≡ true → is_in l.trail.literals m ≡ true;
}
