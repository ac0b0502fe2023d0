use Rattle.std.proofs.Common.{take}
use Rattle.grounding_defs.specs.Found.{is_deleted}
use Rattle.grounder.specs.own.Putting.{LeavesOut}
use Rattle.grounder.proofs.constant.constant_atoms.Given as goal

abbrev pub invariant-loop-place : goal.invariant-loop-place
invariant-loop-place l = LeavesOut (is_deleted l.domains l.reached.atoms (take l.place l.reached.calls)) l.domains.init l.constant
