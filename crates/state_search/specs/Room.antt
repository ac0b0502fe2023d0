-- What walks share, one after the other.
use Rattle.std.specs.Prelude.{◌≡◌, length}
use Rattle.gt_core.specs.Task.{Task}
use Rattle.state_store.specs.Packed.{unpacked, IsPacked, width_of}
use Rattle.successors.specs.Ways.{IsWays}
use Rattle.state_search.specs.declared.room.Room.{Room}

-- it is made for the task: a store of its facts, its actions, its initial state, and rows for two states
pub record IsRoom (task : Task) (r : Room) : Type 0 where
  pub facts : r.store.facts ≡ task.facts
  pub ways : IsWays task r.ways
  pub first : IsPacked task.facts r.first.items
  pub initial : unpacked task.facts r.first.items ≡ task.initial
  pub before : length r.before.items ≡ width_of task.facts
  pub after : length r.after.items ≡ width_of task.facts
