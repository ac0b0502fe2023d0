use Rattle.std.proofs.Common.{◌≡◌, take}
use Rattle.grounding_defs.specs.Found.{actions_of}
use Rattle.grounder.proofs.actions.actions_of.Given as goal

abbrev pub invariant-loop-place : goal.invariant-loop-place
invariant-loop-place l = l.calls.items ≡ actions_of l.known.domains.now l.known.facts (take l.place l.kept)
