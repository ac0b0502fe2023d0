-- The exit status and the text of each ending of the judge.
use Rattle.std.specs.Prelude.{ℕ, ◌+◌, ◌<◌, ◌^◌, Bool, true, false, List, [], ◌∷◌, ◌++◌, codes, decimal}
use Rattle.report_lines.specs.Lines.{joined}
use Rattle.plan_endings.specs.Ending as plain
use Rattle.judge_top.specs.declared.ended.Ended.{Ended}
use Rattle.judge_top.specs.declared.ended.Ended.TheVariants.{Plain, Refuted, Rejected, TooLong, Syntax, NoModel, NoText, Unread, Usage}

-- the exit status
abbrev pub status_of : Ended → ℕ
status_of (Plain end) = plain.status_of end
status_of (Refuted horizon entries) = 0
status_of (Rejected line) = 1
status_of (TooLong line) = 4
status_of (Syntax at) = 3
status_of (NoModel clause) = 1
status_of (NoText at) = 3
status_of Unread = 5
status_of Usage = 7

-- the text due; lines of a proof and clauses are counted from 1 in it, and bytes from 0
abbrev pub text_of : Ended → List ℕ
text_of (Plain end) = plain.text_of end
text_of (Refuted horizon entries) = joined ((codes "; refuted horizon " ++ (decimal horizon ++ (codes " entries " ++ decimal entries))) ∷ [])
text_of (Rejected line) = joined ((codes "; rejected line " ++ decimal line) ∷ [])
text_of (TooLong line) = joined ((codes "; limit line " ++ decimal line) ∷ [])
text_of (Syntax at) = joined ((codes "; refused syntax proof " ++ decimal at) ∷ [])
text_of (NoModel clause) = joined ((codes "; no model clause " ++ decimal (clause + 1)) ∷ [])
text_of (NoText at) = joined ((codes "; refused syntax model " ++ decimal at) ∷ [])
text_of Unread = joined (codes "; read fault model" ∷ [])
text_of Usage = joined (codes "; usage: formula, judge or model" ∷ [])

-- the text due is there: it was made, or is always the same
abbrev pub is_there : Ended → Bool
is_there (Plain end) = plain.is_there end
is_there Unread = true
is_there Usage = true
is_there _ = false

-- a place or a count of a line is a number of the program
abbrev pub IsSmall : Ended → Type 0
IsSmall (Plain end) = plain.IsSmall end
IsSmall (Refuted horizon entries) = (horizon < 2 ^ 64) × (entries < 2 ^ 64)
IsSmall (Rejected line) = line < 2 ^ 64
IsSmall (TooLong line) = line < 2 ^ 64
IsSmall (Syntax at) = at < 2 ^ 64
IsSmall (NoModel clause) = clause + 1 < 2 ^ 64
IsSmall (NoText at) = at < 2 ^ 64
IsSmall _ = Unit {0}
