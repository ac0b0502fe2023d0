-- The text of a model: what a SAT solver prints of one.
use Rattle.std.specs.Prelude.{ℕ, ◌+◌, ◌==◌, ◌&&◌, not, Bool, true, false, List, [], ◌∷◌, ◌++◌, map, length, nat_le, nat_lt, codes, Option, Some, None, option_map, option_and_then, if◌then◌else◌}
use Rattle.std.specs.List.{list_any, range_with_len}
use Rattle.std.specs.Str.{bytes_eq}
use Rattle.sat_text.specs.declared.words.Signed.{Signed}
use Rattle.sat_text.specs.Words.{words_of, number_of}
use Rattle.sat_text.specs.Lines.{whole_lines, last_part, counted}
use Rattle.sat_text.specs.declared.value_reader.Refused.{Refused}
use Rattle.sat_text.specs.declared.value_reader.Refused.TheVariants as refused

-- the numbers that words are, in their order; none where one is no number
abbrev pub numbers_of : List (List ℕ) → Option (List Signed)
numbers_of [] = Some []
numbers_of (word ∷ words) = option_and_then (λ n. option_map (λ ns. n ∷ ns) (numbers_of words)) (number_of word)

-- whether some words are the word `SATISFIABLE` alone
abbrev pub is_satisfiable : List (List ℕ) → Bool
is_satisfiable [] = false
is_satisfiable (word ∷ words) = bytes_eq word (codes "SATISFIABLE") && length words == 0

-- The numbers that a line tells, by its words. A line of values, which begins with `v`, tells those after it; an empty line, a comment
-- and the line `s SATISFIABLE` tell none; any other is no line of a model.
unfoldable pub numbers_told : List (List ℕ) → Option (List Signed)
numbers_told [] = Some []
numbers_told (word ∷ words) =
    if bytes_eq word (codes "c") then Some []
    else if bytes_eq word (codes "v") then numbers_of words
    else if bytes_eq word (codes "s") && is_satisfiable words then Some []
    else None

-- what was told so far: literals, and whether the 0 that ends them came
pub record Told : Type 0 where
  pub literals : List Signed
  pub ended : Bool

-- whether the literal of a variable, counted from 1, was told with a minus, or without one
abbrev pub tells : List Signed → ℕ → Bool → Bool
tells literals variable minus = list_any (λ l. l.number == variable && (if minus then l.minus else not l.minus)) literals

-- what is told after a number more: the 0 at the end, or a literal of one of so many variables, whose opposite was not told; none where it
-- is neither, or comes after the 0
unfoldable pub with_number : ℕ → Told → Signed → Option Told
with_number variables told n =
    if told.ended then None
    else if n.number == 0 then Some (record { literals = told.literals; ended = true })
    else if nat_le n.number variables && not (tells told.literals n.number (not n.minus)) then Some (record { literals = told.literals ++ n ∷ []; ended = false })
    else None

-- the same after numbers
abbrev pub with_numbers : ℕ → Told → List Signed → Option Told
with_numbers variables told [] = Some told
with_numbers variables told (n ∷ ns) = option_and_then (λ next. with_numbers variables next ns) (with_number variables told n)

-- and after a line
abbrev pub with_line : ℕ → Told → List ℕ → Option Told
with_line variables told line = option_and_then (with_numbers variables told) (numbers_told (words_of line))

-- how many bytes a line may have, without its LF
abbrev pub most_values_line : ℕ
most_values_line = 268435456

-- a text is none of a model, which its line at an offset tells, or its end; or a line, counted from 1, is too long; or these are the
-- values of the variables
pub data Reading : Type 0 where
  NoText : ℕ → Reading
  LongLine : ℕ → Reading
  Values : List Bool → Reading

-- what a refusal tells of a text
abbrev pub refused_by : Refused → Reading
refused_by (refused.NoText at) = NoText at
refused_by (refused.LongLine line) = LongLine line

-- what a line comes to, or several: the text is refused, whatever follows; or this was told
pub data Outcome : Type 0 where
  Stops : Refused → Outcome
  Tells : Told → Outcome

-- what a line that begins at an offset comes to, after which this is told, where it is one that may come here
abbrev pub outcome_told : ℕ → Option Told → Outcome
outcome_told at None = Stops (refused.NoText (counted at))
outcome_told at (Some told) = Tells told

-- what the bytes of a line come to, where this was told, the line begins at an offset, and so many stand before it
unfoldable pub outcome_of : ℕ → Told → (at count : ℕ) → List ℕ → Outcome
outcome_of variables told at count line = if nat_lt most_values_line (length line) then Stops (refused.LongLine (counted (count + 1))) else outcome_told at (with_line variables told line)

-- the same of lines of which the first begins at an offset
abbrev pub after_lines : ℕ → Told → (at count : ℕ) → List (List ℕ) → Outcome
after_lines variables told at count [] = Tells told
after_lines variables told at count (line ∷ lines) = elim (outcome_of variables told at count line) [
  | Stops refusal ↦ Stops refusal
  | Tells next ↦ after_lines variables next (at + length line + 1) (count + 1) lines
]

-- the values that literals tell of so many variables: a variable is true where its literal was told without a minus, and else false
abbrev pub values_told : ℕ → List Signed → List Bool
values_told variables literals = map (λ v. tells literals (v + 1) false) (range_with_len 0 variables)

-- what a text of so many bytes is, by what its lines come to: the values have to have an end
abbrev pub reading_of : ℕ → ℕ → Outcome → Reading
reading_of variables long (Stops refusal) = refused_by refusal
reading_of variables long (Tells told) = if told.ended then Values (values_told variables told.literals) else NoText (counted long)

-- the values of so many variables that a text tells, whose last line may lack its LF
unfoldable pub model_of : ℕ → List ℕ → Reading
model_of variables text = reading_of variables (length text) (after_lines variables (record { literals = []; ended = false }) 0 0 (whole_lines text ++ last_part text ∷ []))
