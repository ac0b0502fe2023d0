-- Where a reader stands in a text.
use Rattle.std.specs.Prelude.{◌≡◌, ◌<◌, ◌+◌, ℕ, Bool, true, false, List, [], ◌++◌, length, get_or, Option, Some, None}
use Rattle.sat_text.specs.declared.words.Signed.{Signed}
use Rattle.sat_text.specs.Lines.{whole_lines, last_part, counted}
use Rattle.sat_text.specs.Values.{Told, tells, Outcome, Stops, Tells, after_lines}
use Rattle.sat_text.specs.declared.value_reader.Refused.{Refused}

-- of so many variables those whose literals were told without a minus, and with one
pub record Table : Type 0 where
  pub truths : List Bool
  pub falsehoods : List Bool

-- a row has a mark for each variable whose literal was told with a minus, or without one
pub record Marks (variables : ℕ) (literals : List Signed) (minus : Bool) (row : List Bool) : Type 0 where
  pub long : length row ≡ variables
  pub marks : (v : ℕ) → v < variables → get_or row v false ≡ tells literals (v + 1) minus

-- a table has what literals tell
pub record Holds (variables : ℕ) (literals : List Signed) (table : Table) : Type 0 where
  pub truths : Marks variables literals false table.truths
  pub falsehoods : Marks variables literals true table.falsehoods

-- what a reader holds: its table, whether the 0 came, the offset of the line that comes next, how many lines stand before it, and its front
pub record ReaderView : Type 0 where
  pub table : Table
  pub ended : Bool
  pub at : ℕ
  pub count : ℕ
  pub front : List ℕ

-- this was told
pub record HasTold (variables : ℕ) (told : Told) (reader : ReaderView) : Type 0 where
  pub holds : Holds variables told.literals reader.table
  pub ended : reader.ended ≡ told.ended

-- a reader stands before a line at an offset, after which this is told, where that was said; else it was said that the line is none
abbrev pub Goes : Bool → ℕ → ReaderView → Option Told → Type 0
Goes answer variables reader None = answer ≡ false
Goes answer variables reader (Some told) = (answer ≡ true) × HasTold variables told reader

-- a reader stands where this is told, before a line with this offset and so many lines before it
pub record IsBefore (variables : ℕ) (told : Told) (at count : ℕ) (reader : ReaderView) : Type 0 where
  pub has : HasTold variables told reader
  pub at_is : reader.at ≡ counted at
  pub count_is : reader.count ≡ counted count

-- the refusal of a line is its outcome's, and where there is none a reader stands after it
abbrev pub Comes : ℕ → Outcome → Option Refused → ReaderView → (at count : ℕ) → Type 0
Comes variables (Stops refusal) said reader at count = said ≡ Some refusal
Comes variables (Tells told) said reader at count = (said ≡ None) × IsBefore variables told at count reader

-- a reader has read a text: what the whole lines tell it holds, and the part that is left
pub record HasRead (variables : ℕ) (text : List ℕ) (reader : ReaderView) : Type 0 where
  pub told : Told
  pub at : ℕ
  pub count : ℕ
  pub before : IsBefore variables told at count reader
  pub leads : (more : List (List ℕ)) → after_lines variables (record { literals = []; ended = false }) 0 0 (whole_lines text ++ more) ≡ after_lines variables told at count more
  pub front : reader.front ≡ last_part text
  pub begins : at + length (last_part text) ≡ length text
