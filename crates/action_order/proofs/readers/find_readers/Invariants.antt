use Rattle.std.proofs.Common.{◌*◌}
use Rattle.action_order.specs.own.Readers.{AreRowsOf, needs, asks_of}
use Rattle.action_order.proofs.readers.find_readers.Given as goal

abbrev pub invariant-loop-b : goal.invariant-loop-b
invariant-loop-b l = record {
  needing : AreRowsOf (needs l.acts) (2 * l.facts) l.b l.needing.items;
  asking : AreRowsOf (asks_of l.acts) l.facts l.b l.asking.items;
}
