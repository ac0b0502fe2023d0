use Rattle.std.specs.Prelude.{◌≡◌, ℕ, ◌<◌, ◌≤◌, ◌⊎◌, List, [], ◌∷◌, ◌++◌, Bool, true, false, Option, Some, None, length, slice_index_or}
use Rattle.bit_sets.specs.Rows.{row_has}
use Rattle.gt_core.specs.Literal.{is_in}
use Rattle.action_order.specs.own.Graph.{leads, item, class_at}

-- The topological order of the components: each leads to vertices of others, given by rows of bits and the number of
-- each vertex's component, and has a name. They are taken one after the other, targets first, the least-named first.

-- the component that is taken next, after others
pub record IsTakenNext (rows : List (List ℕ)) (names classes before : List ℕ) (c : ℕ) : Type 0 where
  pub below : c < length rows
  pub new : is_in before c ≡ false
  pub ready : (b : ℕ) → leads rows c b ≡ true → is_in before (class_at classes b) ≡ true
  pub least : (o : ℕ) → o < length rows → is_in before o ≡ false → ((b : ℕ) → leads rows o b ≡ true → is_in before (class_at classes b) ≡ true) → item names c ≤ item names o

-- components taken one after the other, after others
abbrev pub AreTaken : List (List ℕ) → List ℕ → List ℕ → List ℕ → List ℕ → Type 0
AreTaken rows names classes before [] = Unit {0}
AreTaken rows names classes before (c ∷ rest) = IsTakenNext rows names classes before c × AreTaken rows names classes (before ++ c ∷ []) rest

-- all components, in topological order
pub record IsTopologicalOrder (rows : List (List ℕ)) (names classes order : List ℕ) : Type 0 where
  pub taken : AreTaken rows names classes [] order
  pub all : (c : ℕ) → c < length rows → is_in order c ≡ true

-- a component is marked as taken
abbrev pub is_taken : List Bool → ℕ → Bool
is_taken taken c = slice_index_or taken c false

-- a name that is ready: its component is not taken, and those of all its targets are
pub record IsReadyName (rows : List (List ℕ)) (names classes order : List ℕ) (k : ℕ) : Type 0 where
  pub component : ℕ
  pub below : component < length rows
  pub name : item names component ≡ k
  pub untaken : is_in order component ≡ false
  pub all : (b : ℕ) → leads rows component b ≡ true → is_in order (class_at classes b) ≡ true

-- the list at a place; empty past the last
abbrev pub list_at : List (List ℕ) → ℕ → List ℕ
list_at lists k = slice_index_or lists k []

-- a component waits for that of a target, which is not taken
pub record Waits (rows waiting : List (List ℕ)) (classes order : List ℕ) (c : ℕ) : Type 0 where
  pub target : ℕ
  pub among : is_in (list_at waiting (class_at classes target)) c ≡ true
  pub untaken : is_in order (class_at classes target) ≡ false
  pub needed : leads rows c target ≡ true

-- what the sorting keeps: of each component up to which vertex its targets were found taken; each that is not taken
-- is ready, or waits for a target, or is still to be looked at
pub record IsSorting (rows : List (List ℕ)) (names classes : List ℕ) (taken : List Bool) (passed : List ℕ) (waiting : List (List ℕ)) (ready order free : List ℕ) : Type 0 where
  pub taken_long : length taken ≡ length rows
  pub passed_long : length passed ≡ length rows
  pub waiting_long : length waiting ≡ length rows
  pub waiting_below : (on c : ℕ) → is_in (list_at waiting on) c ≡ true → c < length rows
  pub marks : (c : ℕ) → c < length rows → is_taken taken c ≡ is_in order c
  pub order_below : (c : ℕ) → is_in order c ≡ true → c < length rows
  pub passed_taken : (c b : ℕ) → c < length rows → b < item passed c → leads rows c b ≡ true → is_in order (class_at classes b) ≡ true
  pub ready_is : (k : ℕ) → is_in ready k ≡ true → IsReadyName rows names classes order k
  pub covered : (c : ℕ) → c < length rows → is_in order c ≡ false → (is_in ready (item names c) ≡ true) ⊎ ((Waits rows waiting classes order c) ⊎ (is_in free c ≡ true))
  pub sorting : AreTaken rows names classes [] order

-- the least target of a row, from one vertex on, whose component is not taken
abbrev pub IsPending : List Bool → List ℕ → List ℕ → ℕ → Option ℕ → Type 0
IsPending taken classes row start None = (b : ℕ) → start ≤ b → row_has row b ≡ true → is_taken taken (class_at classes b) ≡ true
IsPending taken classes row start (Some b) =
    (row_has row b ≡ true) × (is_taken taken (class_at classes b) ≡ false)
    × ((d : ℕ) → start ≤ d → d < b → row_has row d ≡ true → is_taken taken (class_at classes d) ≡ true)

-- components with a name each, of which every target is a vertex of a component with a lesser number
pub record AreNamedComponents (rows : List (List ℕ)) (names classes : List ℕ) : Type 0 where
  pub vertex : (c b : ℕ) → leads rows c b ≡ true → b < length classes
  pub falls : (c b : ℕ) → c < length rows → leads rows c b ≡ true → class_at classes b < c
  pub named : length names ≡ length rows
  pub apart : (c d : ℕ) → c < length rows → d < length rows → item names c ≡ item names d → c ≡ d
  pub members : (c : ℕ) → c < length rows → (item names c < length classes) × (class_at classes (item names c) ≡ c)
