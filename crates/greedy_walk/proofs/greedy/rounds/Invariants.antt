use Rattle.std.proofs.Common.{◌≡◌, ◌<◌, ◌≤◌}
use Rattle.state_search.specs.Room.{IsRoom}
use Rattle.greedy_walk.proofs.greedy.rounds.Given as goal

-- a round has a state at least, and no more than may be entered; the room stays
abbrev pub invariant-loop-round : goal.invariant-loop-round
invariant-loop-round l = record {
  some : 0 < l.share;
  within : l.share ≤ l.most;
  room : IsRoom l.task l.room;
  size : l.room.store.room ≡ l.initial.room.store.room;
}
