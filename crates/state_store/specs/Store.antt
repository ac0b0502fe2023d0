-- Stored states, and where each comes from.
use Rattle.std.specs.Prelude.{◌≡◌, ℕ, ◌+◌, ◌*◌, ◌++◌, ◌∷◌, [], List, Bool, Some, length, slice_get}
use Rattle.state_store.specs.Packed.{width_of}
use Rattle.state_store.specs.declared.store.Entered.{Entered}
use Rattle.state_store.specs.declared.store.Entered.TheVariants.{Known, New, Full}

-- The states of so many facts, numbered in the order in which they were entered, each a truth value a fact; for each the number of
-- the state that it comes from, and of the action that led from there; how many states may be entered, and for how many there is room.
pub record Stored : Type 0 where
  pub facts : ℕ
  pub room : ℕ
  pub most : ℕ
  pub states : List (List Bool)
  pub parents : List ℕ
  pub actions : List ℕ

-- a state does not stand in a list
abbrev pub IsAbsent : List (List Bool) → List Bool → Type 0
IsAbsent states s = (k : ℕ) → slice_get states k ≡ Some s → ⊥

-- one more state
abbrev pub with_state : Stored → List Bool → ℕ → ℕ → Stored
with_state st s parent action = record st { states = st.states ++ s ∷ []; parents = st.parents ++ parent ∷ []; actions = st.actions ++ action ∷ [] }

-- no states, of which so many may be entered
abbrev pub emptied : Stored → ℕ → Stored
emptied st most = record st { most = most; states = []; parents = []; actions = [] }

-- how many bytes a state of so many facts takes: its words, where it comes from, a node, and a bucket
abbrev pub bytes_of : ℕ → ℕ
bytes_of facts = 8 * width_of facts + 24

-- what comes of a state that is handed in: it is known, or entered as the last one, or there is no room for it
abbrev pub IsEntered : Stored → Stored → List Bool → ℕ → ℕ → Entered → Type 0
IsEntered old new s parent action (Known k) = (new ≡ old) × (slice_get old.states k ≡ Some s)
IsEntered old new s parent action New = IsAbsent old.states s × (new ≡ with_state old s parent action)
IsEntered old new s parent action Full = (new ≡ old) × IsAbsent old.states s × (length old.states ≡ old.most)
