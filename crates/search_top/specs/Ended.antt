-- The exit status and the text of each ending.
use Rattle.std.specs.Prelude.{ℕ, Bool, true, List, [], ◌∷◌, codes}
use Rattle.report_lines.specs.Lines.{joined}
use Rattle.plan_endings.specs.Ending as plain
use Rattle.search_top.specs.declared.ended.Outcome.{Outcome}
use Rattle.search_top.specs.declared.ended.Outcome.TheVariants.{Planned, NoPlan, Unfinished}
use Rattle.search_top.specs.declared.ended.Finding.{Finding}
use Rattle.search_top.specs.declared.ended.Finding.TheVariants as findings
use Rattle.search_top.specs.declared.ended.Ended.{Ended}
use Rattle.search_top.specs.declared.ended.Ended.TheVariants.{Plain, Walked, Shown, Usage}

-- the exit status of a walk that came to this
abbrev pub status_of_walk : Outcome → ℕ
status_of_walk Planned = 0
status_of_walk NoPlan = 1
status_of_walk Unfinished = 2

-- the exit status of what came of it that it was tried to show that there is no plan
abbrev pub status_of_finding : Finding → ℕ
status_of_finding findings.NoPlan = 0
status_of_finding findings.Rejected = 1
status_of_finding findings.Planned = 1
status_of_finding findings.Open = 2
status_of_finding findings.Refused = 3
status_of_finding findings.Past = 4

-- the exit status
abbrev pub status_of : Ended → ℕ
status_of (Plain end) = plain.status_of end
status_of (Walked outcome text) = status_of_walk outcome
status_of (Shown finding text) = status_of_finding finding
status_of Usage = 7

-- the text due
abbrev pub text_of : Ended → List ℕ
text_of (Plain end) = plain.text_of end
text_of (Walked outcome text) = text
text_of (Shown finding text) = text
text_of Usage = joined (codes "; usage: search, never, never-search, never-formula, never-judge or system" ∷ [])

-- the text due is there: it was made, or is always the same
abbrev pub is_there : Ended → Bool
is_there (Plain end) = plain.is_there end
is_there _ = true

-- a place or a count of a line is a number of the program
abbrev pub IsSmall : Ended → Type 0
IsSmall (Plain end) = plain.IsSmall end
IsSmall _ = Unit {0}
