use Rattle.std.proofs.Common.{◌≡◌, length}
use Rattle.state_store.specs.own.Table.{AreTrees}
use Rattle.state_store.proofs.table.Table.grow.Given as goal

-- the first rows are in the trees
abbrev pub invariant-loop-number : goal.invariant-loop-number
invariant-loop-number l = record {
  trees : AreTrees l.rows.width l.self.heads l.self.nodes l.rows.rows (length l.self.nodes);
  count : length l.self.nodes ≡ l.number;
  most : l.self.most ≡ l.initial.self.most;
}
