-- What a walk keeps.
use Rattle.std.specs.Prelude.{◌≡◌, ℕ, List, Bool, Some, length, slice_get, ◌<◌, ◌⊎◌}
use Rattle.gt_core.specs.Literal.{state_of}
use Rattle.gt_core.specs.Task.{Task}
use Rattle.gt_core.specs.Execution.{Runs, IsGoal, next_values}
use Rattle.state_store.specs.Store.{Stored, with_state}
use Rattle.search_laws.specs.Search.{IsListed}
use Rattle.search_laws.specs.Tree.{IsTree}
use Rattle.state_search.specs.declared.walk.Proposed.{Proposed}
use Rattle.state_search.specs.declared.walk.Proposed.TheVariants.{Unable, Known, Entered, Full}

-- the stored states of a walk through a task: states of its facts, and a tree from the initial one
pub record IsWalk (task : Task) (st : Stored) : Type 0 where
  pub facts : st.facts ≡ task.facts
  pub parents : length st.parents ≡ length st.states
  pub actions : length st.actions ≡ length st.states
  pub tree : IsTree task st.states st.parents st.actions

-- none of the states is a goal
abbrev pub HasNoGoal : Task → List (List Bool) → Type 0
HasNoGoal task states = (k : ℕ) (s : List Bool) → slice_get states k ≡ Some s → IsGoal task (state_of s) → ⊥

-- What came of an action in a stored state: it cannot run there, or leads to a known state, or to a new one, which was entered; or
-- to one for which there is no room.
abbrev pub IsProposed : Task → Stored → Stored → ℕ → List Bool → ℕ → Proposed → Type 0
IsProposed task old new parent s a Unable = (new ≡ old) × (Runs task (state_of s) a → ⊥)
IsProposed task old new parent s a Known = (new ≡ old) × IsListed old.states (next_values task (state_of s) a)
IsProposed task old new parent s a Entered = Runs task (state_of s) a × (new ≡ with_state old (next_values task (state_of s) a) parent a)
IsProposed task old new parent s a Full = (new ≡ old) × (length old.states ≡ old.most)

-- no action
abbrev pub none_tried : ℕ → Type 0
none_tried a = ⊥

-- an action of a state before one, or one of those that were tried in that one
abbrev pub IsPassed : ℕ → (ℕ → Type 0) → ℕ → ℕ → Type 0
IsPassed number tried k a = (k < number) ⊎ ((k ≡ number) × tried a)
