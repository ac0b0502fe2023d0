use Rattle.std.proofs.Common.{◌≡◌, ◌<◌, ℕ, [], length}
use Rattle.std.specs.Prelude.{slice_index_or}
use Rattle.action_order.specs.own.Group.{members_below}
use Rattle.action_order.proofs.group.group.Given as goal

abbrev pub invariant-loop-a : goal.invariant-loop-a
invariant-loop-a l = record {
  long : length l.groups.items ≡ l.count;
  members : (c : ℕ) → c < l.count → slice_index_or l.groups.items c [] ≡ members_below l.numbers l.a c;
}
