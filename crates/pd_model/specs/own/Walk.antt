-- How the tree of types is walked in depth. Only private clauses speak of it.
use Rattle.std.specs.Prelude.{◌≡◌, ◌<◌, ◌≤◌, ◌+◌, ◌==◌, true, ℕ, List, length, slice_index}
use Rattle.std.specs.List.{count_by}
use Rattle.pd_model.specs.Types.{is_under}

-- parents lead from one type to another
pub data Above (parents : List ℕ) : ℕ → ℕ → Type 0 where
  here : (kind : ℕ) → Above parents kind kind
  up : (kind above : ℕ) → Above parents (slice_index parents kind) above → Above parents kind above

-- type 0 is its own parent, each parent is a type, and each type leads to type 0
pub record AreRooted (parents : List ℕ) : Type 0 where
  pub some : 0 < length parents
  pub first : slice_index parents 0 ≡ 0
  pub below : (kind : ℕ) → slice_index parents kind < length parents
  pub leads : (kind : ℕ) → kind < length parents → is_under parents kind 0 ≡ true
  pub rooted : (kind : ℕ) → kind < length parents → Above parents kind 0

-- For each of the first types its last child, and the child of its parent that comes before it; 0 where there is none.
pub record AreChains (parents last before : List ℕ) (count : ℕ) : Type 0 where
  pub last_long : length last ≡ length parents
  pub before_long : length before ≡ length parents
  pub last_below : (kind : ℕ) → slice_index last kind < count
  pub last_child : (kind : ℕ) → 0 < slice_index last kind → slice_index parents (slice_index last kind) ≡ kind
  pub is_last : (kind : ℕ) → 0 < kind → kind < count → kind ≤ slice_index last (slice_index parents kind)
  pub before_below : (kind : ℕ) → 0 < kind → slice_index before kind < kind
  pub before_child : (kind : ℕ) → 0 < slice_index before kind → slice_index parents (slice_index before kind) ≡ slice_index parents kind
  pub is_before : (kind later : ℕ) → 0 < kind → kind < later → later < count → slice_index parents kind ≡ slice_index parents later → kind ≤ slice_index before later

-- how many types wait to be entered, or to be left
abbrev pub to_do : List ℕ → ℕ
to_do numbers = count_by (λ n. n == 0) numbers

-- The walk stands at an open type. Numbers count from 1, and 0 is that of a type that is not entered, or not left.
-- The children that were not entered yet end with the last one that is told.
pub record IsWalk (parents entries exits last before : List ℕ) (next at : ℕ) : Type 0 where
  pub rooted : AreRooted parents
  pub entries_long : length entries ≡ length parents
  pub exits_long : length exits ≡ length parents
  pub last_long : length last ≡ length parents
  pub before_long : length before ≡ length parents
  pub counted : next + to_do entries ≡ length parents + 1
  pub at_type : at < length parents
  pub at_entered : 0 < slice_index entries at
  pub at_open : slice_index exits at ≡ 0
  pub started : 0 < slice_index entries 0
  pub entered : (kind : ℕ) → slice_index entries kind < next
  pub parent_first : (kind : ℕ) → 0 < kind → 0 < slice_index entries kind → (0 < slice_index entries (slice_index parents kind)) × (slice_index entries (slice_index parents kind) < slice_index entries kind)
  pub left : (kind : ℕ) → 0 < slice_index exits kind → (slice_index entries kind < slice_index exits kind) × (slice_index exits kind ≤ next) × (0 < slice_index entries kind)
  pub nested : (kind : ℕ) → 0 < kind → kind < length parents → 0 < slice_index exits (slice_index parents kind)
      → (0 < slice_index exits kind) × (slice_index exits kind ≤ slice_index exits (slice_index parents kind))
  pub inside : (kind above : ℕ) → slice_index entries above ≤ slice_index entries kind → slice_index entries kind < slice_index exits above → Above parents kind above
  pub after : (kind above : ℕ) → 0 < slice_index entries above → slice_index exits above ≡ 0 → slice_index entries above ≤ slice_index entries kind → Above parents kind above
  pub path : (above : ℕ) → 0 < slice_index entries above → slice_index exits above ≡ 0 → Above parents at above
  pub last_child : (kind : ℕ) → 0 < slice_index last kind → (slice_index parents (slice_index last kind) ≡ kind) × (slice_index last kind < length parents)
  pub waiting : (kind : ℕ) → 0 < kind → kind < length parents → slice_index entries kind ≡ 0 → kind ≤ slice_index last (slice_index parents kind)
  pub not_yet : (kind : ℕ) → 0 < kind → kind ≤ slice_index last (slice_index parents kind) → slice_index entries kind ≡ 0
  pub before_below : (kind : ℕ) → 0 < kind → slice_index before kind < kind
  pub before_child : (kind : ℕ) → 0 < slice_index before kind → slice_index parents (slice_index before kind) ≡ slice_index parents kind
  pub is_before : (kind later : ℕ) → 0 < kind → kind < later → later < length parents → slice_index parents kind ≡ slice_index parents later → kind ≤ slice_index before later
