use Rattle.std.proofs.Common.{take}
use Rattle.cdcl_tables.specs.Assignment.{literals}
use Rattle.cdcl_core.proofs.solver.tell.Given as goal

abbrev pub invariant-loop-i : goal.invariant-loop-i
invariant-loop-i g l = g.C.Chooser.knows l.chooser l.told (take l.i (literals l.search.state.trail))
