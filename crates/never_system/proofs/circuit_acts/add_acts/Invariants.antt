use Rattle.std.proofs.Common.{◌≡◌, drop}
use Rattle.never_system.specs.Aiger.{with_actions}
use Rattle.never_system.proofs.circuit_acts.add_acts.Given as goal

abbrev pub invariant-loop-number : goal.invariant-loop-number
invariant-loop-number l = with_actions l.width 0 l.initial.circuit l.task.actions ≡ with_actions l.width l.number l.circuit (drop l.number l.task.actions)
