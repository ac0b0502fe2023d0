-- How the literals of a clause are moved as they are read.
use Rattle.std.specs.Prelude.{ℕ, ◌+◌, ◌<◌, ◌≤◌, List, All, length, slice_index, nat_lt, if◌then◌else◌}

-- a code below a limit goes up by one number, and any other by another
abbrev pub shifted : (limit low high : ℕ) → ℕ → ℕ
shifted limit low high l = if nat_lt l limit then low + l else high + l

-- a code in 32 bits stays one, so that a literal is moved as it is read without a test
abbrev pub StaysCode : (limit low high : ℕ) → ℕ → Type 0
StaysCode limit low high l = l ≤ 4294967295 → shifted limit low high l ≤ 4294967295

-- each literal stays a code, and from the first one that is not below the limit on none is
pub record IsMoved (limit low high : ℕ) (lits : List ℕ) : Type 0 where
  pub codes : All (StaysCode limit low high) lits
  pub past : (p q : ℕ) → p ≤ q → q < length lits → limit ≤ slice_index lits p → limit ≤ slice_index lits q
