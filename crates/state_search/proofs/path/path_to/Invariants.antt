use Rattle.std.proofs.Common.{◌≡◌, ◌+◌, ◌<◌, ℕ, List, Bool, length, reverse, Some}
use Rattle.std.specs.Prelude.{slice_get, slice_index}
use Rattle.gt_core.specs.Literal.{state_of}
use Rattle.state_search.specs.own.Path.{RunsToGoal}
use Rattle.state_search.specs.own.Breadth.{AreFrom}
use Rattle.state_search.proofs.path.path_to.Given as goal

-- the actions that were taken, last first, lead from the state to the goal, and are as many as it lies above
abbrev pub invariant-loop-at : goal.invariant-loop-at
invariant-loop-at l = record {
  within : l.at < length l.store.states;
  runs : (s : List Bool) → slice_get l.store.states l.at ≡ Some s → RunsToGoal l.task (state_of s) (reverse l.actions.items);
  long : (depths : List ℕ) → AreFrom l.store.parents depths → length l.actions.items + slice_index depths l.at ≡ slice_index depths l.number;
}

abbrev pub decreases-loop-at : goal.decreases-loop-at
decreases-loop-at l = l.at
