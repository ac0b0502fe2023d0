-- The lines of a text.
use Rattle.std.specs.Prelude.{ℕ, ◌==◌, Bool, not, if◌then◌else◌, List, [], ◌∷◌, ◌++◌}
use Rattle.std.specs.List.{list_all}

-- the lines that end with LF, of a text that goes on from the front of a line
abbrev pub lines_from : List ℕ → List ℕ → List (List ℕ)
lines_from front [] = []
lines_from front (b ∷ bs) = if b == 10 then front ∷ lines_from [] bs else lines_from (front ++ b ∷ []) bs

-- the lines of a text that end with LF, without it
abbrev pub lines_of : List ℕ → List (List ℕ)
lines_of text = lines_from [] text

-- the text of these lines: each ends with LF
abbrev pub joined : List (List ℕ) → List ℕ
joined [] = []
joined (line ∷ lines) = line ++ 10 ∷ joined lines

-- the bytes have no LF, so they are a line
abbrev pub is_line : List ℕ → Bool
is_line bytes = list_all (λ b. not (b == 10)) bytes
