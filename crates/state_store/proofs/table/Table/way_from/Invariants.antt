use Rattle.std.proofs.Common.{◌<◌, ◌-◌, ℕ, length}
use Rattle.state_store.specs.own.Table.{Ends}
use Rattle.state_store.proofs.table.Table.way_from.Given as goal

-- where the way ends from here, it ends from the first node
abbrev pub invariant-loop-node : goal.invariant-loop-node
invariant-loop-node l = record {
  within : l.node < length l.self.nodes;
  on : (last leaf : ℕ) → Ends l.self.nodes l.row l.node last leaf → Ends l.self.nodes l.row l.head last leaf;
}

abbrev pub decreases-loop-node : goal.decreases-loop-node
decreases-loop-node l = length l.self.nodes - l.node
