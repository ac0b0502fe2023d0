use Rattle.std.proofs.Common.{◌≡◌, ◌++◌, drop}
use Rattle.never_system.specs.Blif.{all_maker_names}
use Rattle.never_system.proofs.facts.put_all_makers.Given as goal

abbrev pub invariant-loop-number : goal.invariant-loop-number
invariant-loop-number l = l.initial.text.items ++ all_maker_names l.lit 0 l.task.actions ≡ l.text.items ++ all_maker_names l.lit l.number (drop l.number l.task.actions)
