use Rattle.std.proofs.Common.{◌≡◌, ◌≤◌, length, take}
use Rattle.grounding_defs.specs.Found.{actions_of}
use Rattle.grounder.proofs.actions.count_actions.Given as goal

abbrev pub invariant-loop-place : goal.invariant-loop-place
invariant-loop-place l = record {
  count : l.count ≡ length (actions_of l.known.domains.now l.known.facts (take l.place l.kept));
  few : l.count ≤ l.place;
}
