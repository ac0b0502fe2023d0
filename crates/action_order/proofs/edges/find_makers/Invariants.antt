use Rattle.action_order.specs.own.Readers.{AreRowsOf}
use Rattle.action_order.specs.own.Edges.{surely}
use Rattle.action_order.proofs.edges.find_makers.Given as goal

abbrev pub invariant-loop-b : goal.invariant-loop-b
invariant-loop-b l = AreRowsOf (surely l.sure) l.keys l.b l.rows.items
