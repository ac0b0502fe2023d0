use Rattle.std.specs.Prelude.{ℕ, nat_le, List, ◌==◌, Bool, ◌&&◌, ◌||◌, nat_lt}
use Rattle.bit_sets.specs.Rows.{row_has}

-- a clause is of a literal and one of its row, from this literal on and below a bound
abbrev pub is_from : List ℕ → ℕ → ℕ → ℕ → ℕ → Bool
is_from row l upto a b = ((l == a) && ((nat_le l b && nat_lt b upto) && row_has row b)) || ((l == b) && ((nat_le l a && nat_lt a upto) && row_has row a))
