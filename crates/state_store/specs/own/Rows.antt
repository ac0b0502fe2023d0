-- Rows of words of one width, one after another.
use Rattle.std.specs.Prelude.{ℕ, zero, suc, List, [], ◌∷◌, take, drop}

-- how many words a row has, for how many rows there is room, and the rows
pub record Block : Type 0 where
  pub width : ℕ
  pub most : ℕ
  pub rows : List (List ℕ)

-- the first rows of some words
abbrev pub rows_of : ℕ → ℕ → List ℕ → List (List ℕ)
rows_of width zero words = []
rows_of width (suc count) words = take width words ∷ rows_of width count (drop width words)
