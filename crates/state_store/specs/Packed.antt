-- States as rows of words, 64 truth values to a word.
use Rattle.std.specs.Prelude.{◌≡◌, ℕ, zero, suc, ◌+◌, ◌*◌, ◌/◌, List, [], ◌∷◌, Bool, true, false, map, take, drop, max}
use Rattle.std.specs.List.{range_with_len}
use Rattle.bit_sets.specs.Rows.{row_has}

-- truth values as a number, the first one its least bit
abbrev pub number_of : List Bool → ℕ
number_of [] = 0
number_of (true ∷ values) = 2 * number_of values + 1
number_of (false ∷ values) = 2 * number_of values

-- truth values as so many words
abbrev pub packed : ℕ → List Bool → List ℕ
packed zero values = []
packed (suc n) values = number_of (take 64 values) ∷ packed n (drop 64 values)

-- how many words the truth values of so many facts take: one at least
abbrev pub width_of : ℕ → ℕ
width_of facts = max 1 ((facts + 63) / 64)

-- the truth values of so many facts for which a row of words stands
abbrev pub unpacked : ℕ → List ℕ → List Bool
unpacked facts row = map (row_has row) (range_with_len 0 facts)

-- it is the row of the truth values for which it stands
abbrev pub IsPacked : ℕ → List ℕ → Type 0
IsPacked facts row = row ≡ packed (width_of facts) (unpacked facts row)
