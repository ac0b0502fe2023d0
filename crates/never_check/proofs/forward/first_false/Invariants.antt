use Rattle.std.proofs.Common.{take}
use Rattle.gt_core.specs.Task.{initial_state}
use Rattle.never_defs.specs.Sets.{AreTrue}
use Rattle.never_check.proofs.forward.first_false.Given as goal

abbrev pub invariant-loop-number : goal.invariant-loop-number
invariant-loop-number l = AreTrue (initial_state l.task) (take l.number l.clauses)
