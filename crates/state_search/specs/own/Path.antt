-- The actions that lead to a stored state.
use Rattle.std.specs.Prelude.{ℕ, List, Bool}
use Rattle.gt_core.specs.Task.{Task}
use Rattle.gt_core.specs.Execution.{CanRun, run, IsGoal}

-- actions run one after the other from a state, and reach the goal
pub record RunsToGoal (task : Task) (s : ℕ → Bool) (actions : List ℕ) : Type 0 where
  pub runs : CanRun task s actions
  pub reaches : IsGoal task (run task s actions)
