use Rattle.std.proofs.Common.{◌≡◌, ℕ, ◌<◌, [], true}
use Rattle.std.specs.Prelude.{slice_index, slice_index_or}
use Rattle.std.specs.List.{AllByRecursion}
use Rattle.gt_core.specs.Literal.{is_in}
use Rattle.never_defs.specs.Propagation.{IsLeft}
use Rattle.never_check.specs.Follow.{Obeys, IsGrown}
use Rattle.never_check.proofs.propagate.follow_clauses.Given as goal

abbrev pub invariant-loop-number : goal.invariant-loop-number
invariant-loop-number l = record {
  facts : l.trail.facts ≡ l.initial.trail.facts;
  grown : IsGrown (λ set. AllByRecursion (Obeys set) l.rules.clauses.now) l.initial.trail.literals l.trail.literals;
  told :
      (i : ℕ) → i < l.number-index
      → (m : ℕ) → IsLeft (is_in l.initial.trail.literals) (slice_index_or l.rules.clauses.now (slice_index l.numbers i) []) m → is_in l.trail.literals m ≡ true;
}
