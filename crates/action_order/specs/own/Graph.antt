use Rattle.std.specs.Prelude.{◌≡◌, ℕ, ◌<◌, ◌≤◌, List, [], Bool, true, length, slice_index_or}
use Rattle.bit_sets.specs.Rows.{row_has}
use Rattle.gt_core.specs.Published.{Reaches}

-- A graph is a row of bits for each vertex, which has the vertex's targets.

-- the targets of a vertex as a row of bits; none past the last vertex
abbrev pub row_at : List (List ℕ) → ℕ → List ℕ
row_at rows a = slice_index_or rows a []

-- an edge leads from one vertex to another
abbrev pub leads : List (List ℕ) → ℕ → ℕ → Bool
leads rows a b = row_has (row_at rows a) b

-- each target is a vertex
abbrev pub IsGraph : List (List ℕ) → Type 0
IsGraph rows = (a b : ℕ) → leads rows a b ≡ true → b < length rows

-- the number at a place of a list; 0 past its end
abbrev pub item : List ℕ → ℕ → ℕ
item xs i = slice_index_or xs i 0

-- the number of a vertex's component
abbrev pub class_at : List ℕ → ℕ → ℕ
class_at classes a = item classes a

-- components by numbers, so that an edge leads to no greater number: vertices with one number reach each other, and
-- each number has a vertex
pub record IsClassed (rows : List (List ℕ)) (classes roots : List ℕ) : Type 0 where
  pub long : length classes ≡ length rows
  pub below : (a : ℕ) → a < length rows → class_at classes a < length roots
  pub connected : (a b : ℕ) → a < length rows → b < length rows → class_at classes a ≡ class_at classes b → Reaches (leads rows) a b
  pub falls : (a b : ℕ) → a < length rows → b < length rows → leads rows a b ≡ true → class_at classes b ≤ class_at classes a
  pub used : (c : ℕ) → c < length roots → (item roots c < length rows) × (class_at classes (item roots c) ≡ c)
