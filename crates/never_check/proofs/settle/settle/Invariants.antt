use Rattle.std.proofs.Common.{◌≡◌, ◌≤◌, ◌-◌, ◌*◌, length, take}
use Rattle.never_check.specs.Follow.{IsGrown}
use Rattle.never_check.specs.Rules.{AreFollowed}
use Rattle.never_check.specs.Refuted.{ObeysMore}
use Rattle.never_check.proofs.settle.settle.Given as goal

abbrev pub invariant-settle : goal.invariant-settle
invariant-settle l = record {
  facts : l.trail.facts ≡ l.initial.trail.facts;
  within : l.start ≤ length l.trail.literals;
  grown : IsGrown (ObeysMore l.rules l.more) l.initial.trail.literals l.trail.literals;
  followed : AreFollowed l.rules (take l.start l.trail.literals) l.trail.literals;
}

abbrev pub decreases-settle : goal.decreases-settle
decreases-settle l = 2 * l.initial.trail.facts - length l.trail.literals
