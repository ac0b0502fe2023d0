use Rattle.std.proofs.Common.{◌≡◌, ◌++◌, map, drop}
use Rattle.action_order.specs.own.Graph.{item}
use Rattle.action_order.proofs.publish.names_of.Given as goal

abbrev pub invariant-loop-number : goal.invariant-loop-number
invariant-loop-number l = map (item l.names) l.numbers ≡ l.all.items ++ map (item l.names) (drop l.number-index l.numbers)
