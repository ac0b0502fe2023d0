use Rattle.std.proofs.Common.{◌≡◌, ℕ, true, take}
use Rattle.std.specs.List.{AllByRecursion}
use Rattle.gt_core.specs.Literal.{is_in}
use Rattle.never_defs.specs.Propagation.{IsLeft}
use Rattle.never_check.specs.Follow.{Obeys, IsGrown}
use Rattle.never_check.proofs.begin.look_all.Given as goal

abbrev pub invariant-loop-number : goal.invariant-loop-number
invariant-loop-number l = record {
  facts : l.trail.facts ≡ l.initial.trail.facts;
  grown : IsGrown (λ set. AllByRecursion (Obeys set) l.clauses) l.initial.trail.literals l.trail.literals;
  told : AllByRecursion (λ c. (m : ℕ) → IsLeft (is_in l.initial.trail.literals) c m → is_in l.trail.literals m ≡ true) (take l.number l.clauses);
}
