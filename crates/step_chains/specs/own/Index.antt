-- For each fact literal, the links of the actions that touch it: an index that grows by one action after the other.
use Rattle.std.specs.Prelude.{◌≡◌, ℕ, ◌*◌, ◌<◌, ◌==◌, List, [], ◌∷◌, ◌++◌, Bool, false, true, ◌≢◌, ◌||◌, if◌then◌else◌, length, slice_index_or}
use Rattle.std.specs.List.{AllByRecursion}
use Rattle.bit_sets.specs.Rows.{row_has}
use Rattle.gt_core.specs.Task.{Task}
use Rattle.step_chains.specs.declared.link.Link.{Link}
use Rattle.step_chains.specs.own.Touching.{links_of}

-- an action's link, where it takes or reads the literal
abbrev pub entry : ℕ → Bool → Bool → List Link
entry a t r = if t || r then record { action = a; takes = t; reads = r } ∷ [] else []

-- an action has no link in a list
abbrev pub IsAway : ℕ → List Link → Type 0
IsAway a links = AllByRecursion (λ k. (k.action == a) ≡ false) links

-- an action has no link in an index
abbrev pub IsNew : ℕ → List (List Link) → Type 0
IsNew a index = (l : ℕ) → l < length index → IsAway a (slice_index_or index l [])

-- an index has an action's links beside those of another one: it takes the literals of one test, and reads those of
-- another
pub record HasEntries (a : ℕ) (base : List (List Link)) (takes reads : ℕ → Bool) (index : List (List Link)) : Type 0 where
  pub long : length index ≡ length base
  pub each : (l : ℕ) → l < length base → slice_index_or index l [] ≡ slice_index_or base l [] ++ entry a (takes l) (reads l)

-- an action takes more literals, and reads more
abbrev pub Marks : ℕ → (takes reads : ℕ → Bool) → (old new : List (List Link)) → Type 0
Marks a takes reads old new =
    (base : List (List Link)) (t r : ℕ → Bool) → IsNew a base → HasEntries a base t r old
    → HasEntries a base (λ l. t l || takes l) (λ l. r l || reads l) new

-- the index of a task's actions
pub record IsIndexOf (task : Task) (members : List ℕ) (index : List (List Link)) : Type 0 where
  pub long : length index ≡ 2 * task.facts
  pub each : (l : ℕ) → l < 2 * task.facts → slice_index_or index l [] ≡ links_of task l members

-- a row of bits has each literal of which the list is not empty
abbrev pub AreTouched : List ℕ → List (List Link) → Type 0
AreTouched row lists = (l : ℕ) → row_has row l ≡ false → slice_index_or lists l [] ≡ []

-- and no other literal
abbrev pub HasNoOther : List ℕ → List (List Link) → Type 0
HasNoOther row lists = (l : ℕ) → row_has row l ≡ true → slice_index_or lists l [] ≢ []
