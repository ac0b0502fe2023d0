-- States with where each comes from, as a walk keeps them.
use Rattle.std.specs.Prelude.{◌≡◌, ℕ, suc, ◌<◌, List, Bool, true, Some, slice_get, slice_index}
use Rattle.gt_core.specs.Literal.{state_of}
use Rattle.gt_core.specs.Task.{Task}
use Rattle.gt_core.specs.Lawful.{is_task}
use Rattle.gt_core.specs.Execution.{Runs, next_values}
use Rattle.gt_core.specs.Reached.{IsReached}

-- a state is the one after an action in a state of a list, with a number below a bound, in which the action can run
pub record IsAfter (task : Task) (states : List (List Bool)) (bound parent action : ℕ) (s : List Bool) : Type 0 where
  pub earlier : parent < bound
  pub source : List Bool
  pub is : slice_get states parent ≡ Some source
  pub runs : Runs task (state_of source) action
  pub leads : s ≡ next_values task (state_of source) action

-- the first state is the initial one, and each other one comes from one before it
pub record IsTree (task : Task) (states : List (List Bool)) (parents actions : List ℕ) : Type 0 where
  pub first : slice_get states 0 ≡ Some task.initial
  pub next : (k : ℕ) (s : List Bool) → slice_get states (suc k) ≡ Some s → IsAfter task states (suc k) (slice_index parents (suc k)) (slice_index actions (suc k)) s

-- each state of a tree is reached
abbrev pub TreeIsReached : Type 0
TreeIsReached =
    (task : Task) (states : List (List Bool)) (parents actions : List ℕ) → is_task task ≡ true → IsTree task states parents actions
    → (k : ℕ) (s : List Bool) → slice_get states k ≡ Some s → IsReached task s
