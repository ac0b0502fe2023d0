use Rattle.std.proofs.Common.{length}
use Rattle.action_order.specs.own.Quotient.{AreNames}
use Rattle.action_order.proofs.quotient.names.Given as goal

abbrev pub invariant-loop-a : goal.invariant-loop-a
invariant-loop-a l = AreNames l.numbers (length l.roots) l.a l.names.items
