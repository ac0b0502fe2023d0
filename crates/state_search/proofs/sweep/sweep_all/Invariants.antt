use Rattle.std.proofs.Common.{◌≡◌, ◌-◌, length}
use Rattle.state_store.specs.Packed.{width_of}
use Rattle.state_search.specs.own.Walk.{none_tried}
use Rattle.state_search.specs.own.Closing.{IsClosing}
use Rattle.state_search.specs.own.Breadth.{IsBreadth}
use Rattle.state_search.proofs.sweep.sweep_all.Given as goal

-- the states before the number are swept, breadth first where it began so
abbrev pub invariant-loop-number : goal.invariant-loop-number
invariant-loop-number l = record {
  closing : IsClosing l.task l.store l.number none_tried;
  breadth : IsBreadth l.initial.task l.initial.store 0 none_tried → IsBreadth l.task l.store l.number none_tried;
  most : l.store.most ≡ l.initial.store.most;
  room : l.store.room ≡ l.initial.store.room;
  before : length l.before.items ≡ width_of l.task.facts;
  after : length l.after.items ≡ width_of l.task.facts;
}

abbrev pub decreases-loop-number : goal.decreases-loop-number
decreases-loop-number l = l.store.most - l.number
