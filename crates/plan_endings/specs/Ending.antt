-- The exit status and the text of each ending of a run.
use Rattle.std.specs.Prelude.{ℕ, ◌+◌, ◌<◌, ◌^◌, Bool, true, false, List, [], ◌∷◌, ◌++◌, codes, decimal, map, max}
use Rattle.report_lines.specs.Lines.{joined}
use Rattle.report_lines.specs.Horizons.{entry_line}
use Rattle.plan_endings.specs.declared.ending.File.{File}
use Rattle.plan_endings.specs.declared.ending.File.TheVariants.{Domain, Problem, Plan, Proof}
use Rattle.plan_endings.specs.declared.ending.Kind.{Kind}
use Rattle.plan_endings.specs.declared.ending.Kind.TheVariants as kinds
use Rattle.plan_endings.specs.declared.ending.Limit.{Limit}
use Rattle.plan_endings.specs.declared.ending.Limit.TheVariants as limits
use Rattle.plan_endings.specs.declared.ending.Outcome.{Outcome}
use Rattle.plan_endings.specs.declared.ending.Outcome.TheVariants as outcomes
use Rattle.plan_endings.specs.declared.ending.Ending.{Ending}
use Rattle.plan_endings.specs.declared.ending.Ending.TheVariants.{Report, Listing, Reaches, Blocked, Short, Refused, TooLong, TooMany, TooLarge, ReadFault, Usage, Found, Open, Accepted, Rejected, NotEmpty, Parts}
use Rattle.plan_endings.specs.declared.ending.Due.{Due}
use Rattle.plan_endings.specs.declared.ending.Due.TheVariants.{Made, Fixed}

-- the exit status
abbrev pub status_of_race : Outcome → ℕ
status_of_race outcomes.Planned = 0
status_of_race outcomes.Exhausted = 1
status_of_race outcomes.Unfinished = 2

-- the exit status of an ending
abbrev pub status_of : Ending → ℕ
status_of (Report outcome text) = status_of_race outcome
status_of (Listing text) = 0
status_of Reaches = 0
status_of (Blocked index) = 1
status_of Short = 1
status_of (Refused kind file at) = 3
status_of (TooLong file) = 4
status_of (TooMany what count) = 4
status_of (TooLarge horizon count) = 4
status_of (ReadFault file) = 5
status_of Usage = 7
status_of (Found horizon conflicts) = 1
status_of (Open horizon conflicts) = 2
status_of (Accepted horizon entries) = 0
status_of (Rejected entry) = 1
status_of NotEmpty = 1
status_of (Parts status text) = status

-- the word for a file
abbrev pub word_of : File → List ℕ
word_of Domain = codes "domain"
word_of Problem = codes "problem"
word_of Plan = codes "plan"
word_of Proof = codes "proof"

-- the word for a kind of fault
abbrev pub kind_word : Kind → List ℕ
kind_word kinds.Syntax = codes "syntax"
kind_word kinds.Deep = codes "deep"
kind_word kinds.Shape = codes "shape"
kind_word kinds.Unknown = codes "unknown"
kind_word kinds.Arity = codes "arity"
kind_word kinds.Duplicate = codes "duplicate"
kind_word kinds.Unsupported = codes "unsupported"
kind_word kinds.Mistyped = codes "type"

-- the word for what there may be too much of
abbrev pub limit_word : Limit → List ℕ
limit_word limits.Tuples = codes "tuples"
limit_word limits.Facts = codes "facts"
limit_word limits.Actions = codes "actions"
limit_word limits.Effects = codes "effects"

-- the one line of an ending that has no text of its own; actions are counted from 1 in it
abbrev pub line_of : Ending → List ℕ
line_of (Report outcome text) = []
line_of (Listing text) = []
line_of Reaches = codes "; reaches the goal"
line_of (Blocked index) = codes "; blocked at action " ++ decimal (index + 1)
line_of Short = codes "; goal not reached"
line_of (Refused kind file at) = codes "; refused " ++ (kind_word kind ++ (codes " " ++ (word_of file ++ (codes " " ++ decimal at))))
line_of (TooLong file) = codes "; limit file " ++ word_of file
line_of (TooMany what count) = codes "; limit " ++ (limit_word what ++ (codes " " ++ decimal count))
line_of (TooLarge horizon count) = codes "; limit literals " ++ (decimal count ++ (codes " horizon " ++ decimal horizon))
line_of (ReadFault file) = codes "; read fault " ++ word_of file
line_of Usage = codes "; usage: plan, check, ground, order or gen"
line_of (Found horizon conflicts) = entry_line (record { horizon = horizon; word = codes "plan"; conflicts = conflicts })
line_of (Open horizon conflicts) = entry_line (record { horizon = horizon; word = codes "open"; conflicts = conflicts })
line_of (Accepted horizon entries) = codes "; accepted horizon " ++ (decimal horizon ++ (codes " entries " ++ decimal entries))
line_of (Rejected entry) = codes "; rejected entry " ++ decimal entry
line_of NotEmpty = codes "; not empty"
line_of (Parts status text) = []

-- the text due: that of a report, a listing or a batch, or one line
abbrev pub text_of : Ending → List ℕ
text_of (Report outcome text) = text
text_of (Listing text) = text
text_of (Parts status text) = text
text_of end = joined (line_of end ∷ [])

-- the text due is there: it was made, or is always the same
abbrev pub is_there : Ending → Bool
is_there (Report outcome text) = true
is_there (Listing text) = true
is_there (Parts status text) = true
is_there Reaches = true
is_there Short = true
is_there Usage = true
is_there NotEmpty = true
is_there _ = false

-- a place, an index or a count of a line is a number of the program
abbrev pub IsSmall : Ending → Type 0
IsSmall (TooMany what count) = count < 2 ^ 64
IsSmall (TooLarge horizon count) = (horizon < 2 ^ 64) × (count < 2 ^ 64)
IsSmall (Refused kind file at) = at < 2 ^ 32
IsSmall (Blocked index) = index < 2 ^ 32
IsSmall (Found horizon conflicts) = (horizon < 2 ^ 64) × (conflicts < 2 ^ 64)
IsSmall (Open horizon conflicts) = (horizon < 2 ^ 64) × (conflicts < 2 ^ 64)
IsSmall (Accepted horizon entries) = (horizon < 2 ^ 64) × (entries < 2 ^ 64)
IsSmall (Rejected entry) = entry < 2 ^ 64
IsSmall _ = Unit {0}

-- the bytes of a text that is due
abbrev pub bytes_of : Due → List ℕ
bytes_of (Made bytes) = bytes
bytes_of (Fixed text) = text.now

-- ---- the parts of a batch

-- the greatest of statuses
abbrev pub greatest : List ℕ → ℕ
greatest [] = 0
greatest (status ∷ statuses) = max status (greatest statuses)

-- the line before the part of a problem, which is counted from 1
abbrev pub problem_line : ℕ → List ℕ
problem_line number = codes "; problem " ++ decimal number

-- the parts of problems from this number on, each under its line
abbrev pub parts_text : ℕ → List Ending → List ℕ
parts_text number [] = []
parts_text number (part ∷ parts) = joined (problem_line number ∷ []) ++ (text_of part ++ parts_text (number + 1) parts)

-- how a batch ends with these parts
abbrev pub batch_of : List Ending → Ending
batch_of parts = Parts (greatest (map status_of parts)) (parts_text 1 parts)
