use Rattle.std.proofs.Common.{◌≡◌, drop}
use Rattle.action_order.specs.own.SortingOf.{IsSortingOf}
use Rattle.action_order.proofs.sort.TopologicalSort.release.Given as goal

abbrev pub invariant-loop-i : goal.invariant-loop-i
invariant-loop-i l = record {
  sorting : IsSortingOf l.rows l.names l.numbers l.self (drop l.i l.free);
  taken : l.self.taken.items ≡ l.initial.self.taken.items;
}
