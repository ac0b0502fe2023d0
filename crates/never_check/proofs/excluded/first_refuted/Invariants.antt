use Rattle.std.proofs.Common.{◌≡◌, length, take}
use Rattle.never_check.specs.Verdicts.{IsLeast}
use Rattle.never_check.proofs.excluded.first_refuted.Given as goal

abbrev pub invariant-loop-place : goal.invariant-loop-place
invariant-loop-place l = record {
  facts : l.trail.facts ≡ l.initial.trail.facts;
  front : take (length l.initial.trail.literals) l.trail.literals ≡ l.initial.trail.literals;
  least : IsLeast l.rules (take l.place l.lits) l.trail;
}
