-- A walk whose stored states are swept in their order, whatever proposed them.
use Rattle.std.specs.Prelude.{◌≡◌, ℕ, suc, List, Bool, Some, length, slice_get}
use Rattle.gt_core.specs.Literal.{state_of}
use Rattle.gt_core.specs.Task.{Task}
use Rattle.gt_core.specs.Execution.{Runs, IsGoal, next_values}
use Rattle.state_store.specs.Store.{Stored}
use Rattle.search_laws.specs.Search.{IsListed}
use Rattle.state_search.specs.own.Walk.{IsWalk, HasNoGoal, IsPassed}
use Rattle.state_search.specs.declared.sweep.Swept.{Swept}
use Rattle.state_search.specs.declared.sweep.Swept.TheVariants.{Closed, Goal, Full}

-- all states before one were swept, and that one by the actions that were tried: each of these actions that can run leads to a stored
-- state, and no stored state is a goal
pub record IsClosing (task : Task) (st : Stored) (number : ℕ) (tried : ℕ → Type 0) : Type 0 where
  pub walk : IsWalk task st
  pub closed : (k : ℕ) (s : List Bool) (a : ℕ) → IsPassed number tried k a → slice_get st.states k ≡ Some s → Runs task (state_of s) a → IsListed st.states (next_values task (state_of s) a)
  pub no_goal : HasNoGoal task st.states

-- the last stored state is a goal
pub record IsGoalLast (task : Task) (st : Stored) : Type 0 where
  pub walk : IsWalk task st
  pub last : ℕ
  pub is_last : length st.states ≡ suc last
  pub state : List Bool
  pub at : slice_get st.states last ≡ Some state
  pub goal : IsGoal task (state_of state)

-- what came of sweeping a state: so much is closed, or a goal was entered last, or there is no room
abbrev pub IsClosedOff : Task → Stored → ℕ → (ℕ → Type 0) → Swept → Type 0
IsClosedOff task st number tried Closed = IsClosing task st number tried
IsClosedOff task st number tried Goal = IsGoalLast task st
IsClosedOff task st number tried Full = IsWalk task st × (length st.states ≡ st.most)
