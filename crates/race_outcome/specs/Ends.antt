-- How a race ends, as definitions see it.
use Rattle.std.specs.Prelude.{ℕ, ◌+◌, List, [], ◌∷◌, map}
use Rattle.race_outcome.specs.declared.line.LineEnd.{LineEnd}
use Rattle.race_outcome.specs.declared.line.LineEnd.TheVariants as lines
use Rattle.race_outcome.specs.declared.line.Line.{Line}
use Rattle.race_outcome.specs.declared.end.RaceEnd.{RaceEnd}
use Rattle.race_outcome.specs.declared.end.RaceEnd.TheVariants as ends

-- how a line says that a horizon ended
pub data Word : Type 0 where
  WordRefuted : Word
  WordDropped : Word
  WordOpen : Word
  WordPlan : Word

-- the line of a started horizon
pub record LineView : Type 0 where
  pub horizon : ℕ
  pub conflicts : ℕ
  pub word : Word

-- what a race comes to: a plan of so many steps, each a list of actions; the last listed horizon is refuted; or the budget
-- is spent. Each has the lines of the horizons that were started, rising.
pub data EndView : Type 0 where
  Planned : ℕ → List (List ℕ) → List LineView → EndView
  Exhausted : ℕ → List LineView → EndView
  Unfinished : List LineView → EndView

-- the lines of an end
abbrev pub lines_in : EndView → List LineView
lines_in (Planned horizon steps lines) = lines
lines_in (Exhausted horizon lines) = lines
lines_in (Unfinished lines) = lines

-- the conflicts that lines sum to
abbrev pub conflicts_in : List LineView → ℕ
conflicts_in [] = 0
conflicts_in (line ∷ lines) = line.conflicts + conflicts_in lines

-- ---- what the values of the program stand for

-- the word for how a line of the program ends
abbrev pub word_of : LineEnd → Word
word_of (lines.Refuted stamp) = WordRefuted
word_of lines.Dropped = WordDropped
word_of lines.Going = WordOpen
word_of lines.Found = WordPlan

-- the line that a line of the program stands for
abbrev pub line_view : Line → LineView
line_view line = record { horizon = line.horizon; conflicts = line.conflicts; word = word_of line.end }

-- the end that an end of the program stands for
abbrev pub end_view : RaceEnd → EndView
end_view (ends.Plan horizon steps lines) = Planned horizon steps (map line_view lines)
end_view (ends.Exhausted horizon lines) = Exhausted horizon (map line_view lines)
end_view (ends.Unfinished lines) = Unfinished (map line_view lines)

-- the lines of an end, with their marks
abbrev pub lines_of : RaceEnd → List Line
lines_of (ends.Plan horizon steps lines) = lines
lines_of (ends.Exhausted horizon lines) = lines
lines_of (ends.Unfinished lines) = lines
