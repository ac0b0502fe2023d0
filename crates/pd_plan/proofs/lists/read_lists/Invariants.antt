use Rattle.pd_plan.specs.own.Reader.{state_of}
use Rattle.pd_plan.proofs.Steps.{Reached}
use Rattle.pd_plan.proofs.lists.read_lists.Given as goal

abbrev pub invariant-loop-at : goal.invariant-loop-at
invariant-loop-at l = Reached l.bytes l.at (state_of l.reader)
