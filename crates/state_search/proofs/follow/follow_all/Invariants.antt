use Rattle.std.proofs.Common.{◌≡◌, length}
use Rattle.state_store.specs.Packed.{width_of}
use Rattle.state_search.specs.own.Walk.{IsWalk, HasNoGoal}
use Rattle.state_search.proofs.follow.follow_all.Given as goal

-- the states are those of a walk, and none is a goal
abbrev pub invariant-loop-turn : goal.invariant-loop-turn
invariant-loop-turn g l = record {
  walk : IsWalk l.task l.store;
  no_goal : HasNoGoal l.task l.store.states;
  most : l.store.most ≡ l.initial.store.most;
  room : l.store.room ≡ l.initial.store.room;
  before : length l.before.items ≡ width_of l.task.facts;
  after : length l.after.items ≡ width_of l.task.facts;
}
