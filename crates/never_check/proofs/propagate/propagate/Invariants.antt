use Rattle.std.proofs.Common.{◌≡◌, ◌≤◌, ◌-◌, ◌*◌, length, take}
use Rattle.never_check.specs.Follow.{IsGrown}
use Rattle.never_check.specs.Rules.{ObeysRules, AreFollowed}
use Rattle.never_check.proofs.propagate.propagate.Given as goal

abbrev pub invariant-follow : goal.invariant-follow
invariant-follow l = record {
  facts : l.trail.facts ≡ l.initial.trail.facts;
  within : l.place ≤ length l.trail.literals;
  grown : IsGrown (ObeysRules l.rules) l.initial.trail.literals l.trail.literals;
  followed : AreFollowed l.rules (take l.place l.trail.literals) l.trail.literals;
}

abbrev pub decreases-follow : goal.decreases-follow
decreases-follow l = 2 * l.initial.trail.facts - l.place
