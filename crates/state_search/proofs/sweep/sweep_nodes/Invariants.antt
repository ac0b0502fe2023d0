use Rattle.std.proofs.Common.{◌≡◌, ◌≤◌, ◌-◌, length, Some}
use Rattle.std.specs.Prelude.{slice_get, slice_index}
use Rattle.state_store.specs.Packed.{unpacked}
use Rattle.successors.specs.Trie.{IsBefore}
use Rattle.state_search.specs.own.Closing.{IsClosing}
use Rattle.state_search.specs.own.Breadth.{IsBreadth}
use Rattle.state_search.proofs.sweep.sweep_nodes.Given as goal

-- the state is swept by the actions before those of the node, breadth first where it was so
abbrev pub invariant-loop-node : goal.invariant-loop-node
invariant-loop-node l = record {
  within : l.node ≤ length l.ways.trie.lits;
  closing : IsClosing l.task l.store l.number (IsBefore l.ways.trie.acts (slice_index l.ways.trie.froms l.node));
  breadth : IsBreadth l.initial.task l.initial.store l.number (IsBefore l.ways.trie.acts (slice_index l.ways.trie.froms 0)) → IsBreadth l.task l.store l.number (IsBefore l.ways.trie.acts (slice_index l.ways.trie.froms l.node));
  at : slice_get l.store.states l.number ≡ Some (unpacked l.task.facts l.before);
  most : l.store.most ≡ l.initial.store.most;
  room : l.store.room ≡ l.initial.store.room;
  after : length l.after.items ≡ length l.before;
}

abbrev pub decreases-loop-node : goal.decreases-loop-node
decreases-loop-node l = length l.ways.trie.lits - l.node
