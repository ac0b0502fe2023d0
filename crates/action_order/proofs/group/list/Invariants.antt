use Rattle.std.proofs.Common.{◌≡◌, ◌++◌, map, drop}
use Rattle.action_order.specs.own.Group.{members}
use Rattle.action_order.proofs.group.list.Given as goal

abbrev pub invariant-loop-c : goal.invariant-loop-c
invariant-loop-c l = map (members l.numbers) l.order ≡ l.components.items ++ map (members l.numbers) (drop l.c-index l.order)
