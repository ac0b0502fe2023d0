-- The lines of a text, each of which an LF ends, and the offsets at which they begin.
use Rattle.std.specs.Prelude.{ℕ, ◌==◌, not, List, [], ◌∷◌, Bool, min, if◌then◌else◌}
use Rattle.std.specs.List.{list_all}

-- a byte put in front of the first line, where there is one
abbrev pub put_first : ℕ → List (List ℕ) → List (List ℕ)
put_first b [] = []
put_first b (line ∷ lines) = (b ∷ line) ∷ lines

-- the lines of a text, each of which an LF ends
abbrev pub whole_lines : List ℕ → List (List ℕ)
whole_lines [] = []
whole_lines (b ∷ text) = if b == 10 then [] ∷ whole_lines text else put_first b (whole_lines text)

-- what follows the last LF, or all where there is none
abbrev pub last_part : List ℕ → List ℕ
last_part [] = []
last_part (b ∷ text) = if b == 10 then last_part text else elim (whole_lines text) [ [] ↦ b ∷ text | line ∷ lines ↦ last_part text ]

-- no line ends in a text
abbrev pub has_no_end : List ℕ → Bool
has_no_end text = list_all (λ b. not (b == 10)) text

-- a count of 64 bits, which stands still at its end
abbrev pub counted : ℕ → ℕ
counted n = min n 18446744073709551615
