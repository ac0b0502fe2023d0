use Rattle.std.proofs.Common.{◌≡◌, ◌++◌, drop}
use Rattle.never_system.specs.Blif.{all_maker_zeros}
use Rattle.never_system.proofs.facts.put_all_zeros.Given as goal

abbrev pub invariant-loop-number : goal.invariant-loop-number
invariant-loop-number l = l.initial.text.items ++ all_maker_zeros l.lit l.task.actions ≡ l.text.items ++ all_maker_zeros l.lit (drop l.number l.task.actions)
