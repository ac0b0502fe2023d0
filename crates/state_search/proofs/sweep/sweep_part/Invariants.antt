use Rattle.std.proofs.Common.{◌≡◌, length, Some}
use Rattle.std.specs.Prelude.{slice_get}
use Rattle.state_store.specs.Packed.{unpacked}
use Rattle.successors.specs.Trie.{IsBefore}
use Rattle.state_search.specs.own.Closing.{IsClosing}
use Rattle.state_search.specs.own.Breadth.{IsBreadth}
use Rattle.state_search.proofs.sweep.sweep_part.Given as goal

-- the state is swept by the actions before the place, breadth first where it was so
abbrev pub invariant-loop-place : goal.invariant-loop-place
invariant-loop-place l = record {
  closing : IsClosing l.task l.store l.number (IsBefore l.ways.trie.acts l.place);
  breadth : IsBreadth l.initial.task l.initial.store l.number (IsBefore l.ways.trie.acts l.from) → IsBreadth l.task l.store l.number (IsBefore l.ways.trie.acts l.place);
  at : slice_get l.store.states l.number ≡ Some (unpacked l.task.facts l.before);
  most : l.store.most ≡ l.initial.store.most;
  room : l.store.room ≡ l.initial.store.room;
  after : length l.after.items ≡ length l.before;
}
