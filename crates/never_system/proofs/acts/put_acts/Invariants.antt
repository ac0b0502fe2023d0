use Rattle.std.proofs.Common.{◌≡◌, ◌++◌, drop}
use Rattle.never_system.specs.Blif.{action_tables}
use Rattle.never_system.proofs.acts.put_acts.Given as goal

abbrev pub invariant-loop-number : goal.invariant-loop-number
invariant-loop-number l = l.initial.text.items ++ action_tables l.width 0 l.task.actions ≡ l.text.items ++ action_tables l.width l.number (drop l.number l.task.actions)
