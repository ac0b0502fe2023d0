-- A walk that goes breadth first: states in the order of their depths.
use Rattle.std.specs.Prelude.{◌≡◌, ℕ, suc, ◌+◌, ◌<◌, ◌≤◌, List, Bool, Some, length, slice_get, slice_index}
use Rattle.gt_core.specs.Literal.{state_of}
use Rattle.gt_core.specs.Task.{Task}
use Rattle.gt_core.specs.Execution.{Runs, IsGoal, next_values}
use Rattle.state_store.specs.Store.{Stored}
use Rattle.search_laws.specs.Search.{AreDepths}
use Rattle.state_search.specs.own.Walk.{IsWalk, HasNoGoal, IsPassed}
use Rattle.state_search.specs.declared.sweep.Swept.{Swept}
use Rattle.state_search.specs.declared.sweep.Swept.TheVariants.{Closed, Goal, Full}

-- the depth of each stored state: none of the first, one more than its parent's of each other one
pub record AreFrom (parents depths : List ℕ) : Type 0 where
  pub long : length depths ≡ length parents
  pub first : slice_index depths 0 ≡ 0
  pub next : (k : ℕ) → suc k < length parents → slice_index depths (suc k) ≡ slice_index depths (slice_index parents (suc k)) + 1

-- the state after an action is stored, one deeper at most
abbrev pub LeadsNear : Task → Stored → List ℕ → ℕ → List Bool → ℕ → Type 0
LeadsNear task st depths k s a = (j : ℕ) × (slice_get st.states j ≡ Some (next_values task (state_of s) a)) × (slice_index depths j ≤ slice_index depths k + 1)

-- All states before one were swept, and that one by the actions that were tried: each of these actions that can run leads to a stored
-- state. Depths do not fall, no stored state is more than one deeper than the one that is swept, and none is a goal.
pub record IsBreadth (task : Task) (st : Stored) (number : ℕ) (tried : ℕ → Type 0) : Type 0 where
  pub walk : IsWalk task st
  pub depths : List ℕ
  pub from : AreFrom st.parents depths
  pub rising : (i j : ℕ) → i ≤ j → j < length st.states → slice_index depths i ≤ slice_index depths j
  pub near : (k : ℕ) → k < length st.states → number < length st.states → slice_index depths k ≤ slice_index depths number + 1
  pub closed : (k : ℕ) (s : List Bool) (a : ℕ) → IsPassed number tried k a → slice_get st.states k ≡ Some s → Runs task (state_of s) a → LeadsNear task st depths k s a
  pub no_goal : HasNoGoal task st.states

-- the last stored state is a goal, at a depth below which there is none
pub record IsFound (task : Task) (st : Stored) : Type 0 where
  pub walk : IsWalk task st
  pub depths : List ℕ
  pub from : AreFrom st.parents depths
  pub last : ℕ
  pub is_last : length st.states ≡ suc last
  pub state : List Bool
  pub at : slice_get st.states last ≡ Some state
  pub goal : IsGoal task (state_of state)
  pub layers : AreDepths task st.states depths (slice_index depths last)

-- what came of sweeping a state: so much is closed, or a goal was entered last, or there is no room
abbrev pub IsSwept : Task → Stored → ℕ → (ℕ → Type 0) → Swept → Type 0
IsSwept task st number tried Closed = IsBreadth task st number tried
IsSwept task st number tried Goal = IsFound task st
IsSwept task st number tried Full = IsWalk task st × (length st.states ≡ st.most)
