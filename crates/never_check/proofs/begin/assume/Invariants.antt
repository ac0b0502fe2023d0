use Rattle.std.proofs.Common.{◌≡◌, take}
use Rattle.gt_core.specs.Literal.{is_in}
use Rattle.never_check.specs.Follow.{HasAll, IsGrown}
use Rattle.never_check.proofs.begin.assume.Given as goal

abbrev pub invariant-loop-lit : goal.invariant-loop-lit
invariant-loop-lit l = record {
  facts : l.trail.facts ≡ l.initial.trail.facts;
  grown : IsGrown (λ set. HasAll set l.lits) l.initial.trail.literals l.trail.literals;
  has : HasAll (is_in l.trail.literals) (take l.lit-index l.lits);
}
