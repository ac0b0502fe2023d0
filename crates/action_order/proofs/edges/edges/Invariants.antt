use Rattle.action_order.specs.own.Edges.{AreEdges}
use Rattle.action_order.proofs.edges.edges.Given as goal

abbrev pub invariant-loop-a : goal.invariant-loop-a
invariant-loop-a l = AreEdges l.pairs.clauses l.acts l.a l.targets.items
