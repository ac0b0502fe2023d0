-- The text of a certificate, and what it tells.
use Rattle.std.specs.Prelude.{ℕ, ◌+◌, ◌*◌, ◌==◌, ◌||◌, ◌&&◌, not, Bool, List, [], ◌∷◌, ◌++◌, filter, length, nat_le, nat_lt, codes, sum_by, Option, Some, None, Result, Ok, Err, if◌then◌else◌}
use Rattle.std.specs.Str.{bytes_eq}
use Rattle.gt_core.specs.Literal.{is_in, range}
use Rattle.sat_text.specs.declared.words.Signed.{Signed}
use Rattle.sat_text.specs.Lines.{whole_lines, last_part}
use Rattle.sat_text.specs.Words.{words_of, number_of}
use Rattle.sat_text.specs.LratLine.{is_passed, code_of}
use Rattle.sat_text.specs.Dimacs.{clause_lines}
use Rattle.never_text.specs.declared.fault.Fault.{Fault}
use Rattle.never_text.specs.declared.fault.Fault.TheVariants as fault
use Rattle.never_text.specs.declared.kind.Kind.{Kind}
use Rattle.never_text.specs.declared.kind.Kind.TheVariants as kind

-- the lines of a text, of which the last one may lack its LF
abbrev pub lines_of : List ℕ → List (List ℕ)
lines_of text = whole_lines text ++ last_part text ∷ []

-- how clauses are read, by the words after `clauses`
abbrev pub way_of : List (List ℕ) → Option Kind
way_of [] = None
way_of (word ∷ words) =
    if not (length words == 0) then None
    else if bytes_eq word (codes "forward") then Some kind.Forward
    else if bytes_eq word (codes "backward") then Some kind.Backward
    else None

-- what a line says that a certificate is: `clauses forward`, `clauses backward` or `weights`
abbrev pub kind_of : List (List ℕ) → Option Kind
kind_of [] = None
kind_of (word ∷ words) =
    if bytes_eq word (codes "clauses") then way_of words
    else if bytes_eq word (codes "weights") && length words == 0 then Some kind.Weights
    else None

-- how many literals a clause may have
abbrev pub most_literals : ℕ
most_literals = 4096

-- the literals of the clause that a line is, where some were read and words are left: numbers of facts, counted from 1, each after
-- a minus or not, and then the 0 that ends the line
abbrev pub literals_of : ℕ → List ℕ → List (List ℕ) → Result (List ℕ) Fault
literals_of facts lits [] = Err fault.End
literals_of facts lits (word ∷ words) = elim (number_of word) [
  | None ↦ Err fault.Number
  | Some told ↦
      if told.number == 0 then (if length words == 0 then Ok lits else Err fault.End)
      else if nat_lt facts told.number then Err fault.Fact
      else if nat_le most_literals (length lits) then Err fault.Long
      else literals_of facts (lits ++ code_of told ∷ []) words
]

-- literals of so many facts, in rising order and each once
unfoldable pub sorted : ℕ → List ℕ → List ℕ
sorted facts lits = filter (is_in lits) (range (2 * facts))

-- the weight of a fact is that of the literal that says that it is true, and of the opposite one where the weight has a minus
abbrev pub weight_with : ℕ → Signed → Signed → Result (ℕ × ℕ) Fault
weight_with facts fact weight =
    if fact.minus || (fact.number == 0 || nat_lt facts fact.number) then Err fault.Fact
    else Ok (code_of (record { minus = weight.minus; number = fact.number }), weight.number)

-- the number that the next word is, and the words after it
abbrev pub next_number : List (List ℕ) → Result (Signed × List (List ℕ)) Fault
next_number [] = Err fault.End
next_number (word ∷ words) = elim (number_of word) [ None ↦ Err fault.Number | Some told ↦ Ok (told, words) ]

-- the weight that a line tells, where the words after the fact's number are left
abbrev pub weight_after : ℕ → Result (Signed × List (List ℕ)) Fault → Result (ℕ × ℕ) Fault
weight_after facts (Err f) = Err f
weight_after facts (Ok fact) = elim (next_number fact.1) [
  | Err f ↦ Err f
  | Ok weight ↦ if length weight.1 == 0 then weight_with facts fact.0 weight.0 else Err fault.End
]

-- the weight that a line tells: the number of a fact, counted from 1, and its weight
abbrev pub weight_of : ℕ → List (List ℕ) → Result (ℕ × ℕ) Fault
weight_of facts words = weight_after facts (next_number words)

-- what was told so far: nothing, clauses, or weights of literals
pub data Certificate : Type 0 where
  Nothing : Certificate
  Forward : List (List ℕ) → Certificate
  Backward : List (List ℕ) → Certificate
  Weights : List (ℕ × ℕ) → Certificate

-- what is told where it was only said what the certificate is
abbrev pub begun : Option Kind → Result Certificate Fault
begun None = Err fault.Kind
begun (Some kind.Forward) = Ok (Forward [])
begun (Some kind.Backward) = Ok (Backward [])
begun (Some kind.Weights) = Ok (Weights [])

-- clauses, and one more
abbrev pub with_clause : ℕ → List (List ℕ) → Result (List ℕ) Fault → Result (List (List ℕ)) Fault
with_clause facts clauses (Ok lits) = Ok (clauses ++ sorted facts lits ∷ [])
with_clause facts clauses (Err f) = Err f

-- the sum of weights
abbrev pub sum_of : List (ℕ × ℕ) → ℕ
sum_of weights = sum_by (λ w. w.1) weights

-- weights, and one more, with which their sum is below 2 ^ 63
abbrev pub with_weight : List (ℕ × ℕ) → Result (ℕ × ℕ) Fault → Result (List (ℕ × ℕ)) Fault
with_weight weights (Ok w) = if nat_lt (sum_of weights + w.1) 9223372036854775808 then Ok (weights ++ w ∷ []) else Err fault.Sum
with_weight weights (Err f) = Err f

-- what is made of an answer that is no fault
abbrev pub told_as : {A : Type 0} → (A → Certificate) → Result A Fault → Result Certificate Fault
told_as make (Ok told) = Ok (make told)
told_as make (Err f) = Err f

-- what is told after a line of these words
abbrev pub with_words : ℕ → Certificate → List (List ℕ) → Result Certificate Fault
with_words facts Nothing words = begun (kind_of words)
with_words facts (Forward clauses) words = told_as Forward (with_clause facts clauses (literals_of facts [] words))
with_words facts (Backward clauses) words = told_as Backward (with_clause facts clauses (literals_of facts [] words))
with_words facts (Weights weights) words = told_as Weights (with_weight weights (weight_of facts words))

-- and after a line, which is passed over where it is empty or begins with the word `c`
abbrev pub with_line : ℕ → Certificate → List ℕ → Result Certificate Fault
with_line facts told line = if is_passed (words_of line) then Ok told else with_words facts told (words_of line)

-- and after lines, the first of which begins at an offset; or the offset of the first one that is at fault
abbrev pub with_lines : ℕ → Certificate → ℕ → List (List ℕ) → Result Certificate (ℕ × Fault)
with_lines facts told at [] = Ok told
with_lines facts told at (line ∷ lines) = elim (with_line facts told line) [
  | Ok next ↦ with_lines facts next (at + length line + 1) lines
  | Err f ↦ Err (at, f)
]

-- a certificate has to say what it is, which the end of its text tells
abbrev pub ended : ℕ → Result Certificate (ℕ × Fault) → Result Certificate (ℕ × Fault)
ended long (Ok Nothing) = Err (long, fault.Kind)
ended long told = told

-- the certificate that a text is, of a task with so many facts; or the offset of the first line at fault, and what is wrong with it
unfoldable pub certificate_of : ℕ → List ℕ → Result Certificate (ℕ × Fault)
certificate_of facts text = ended (length text) (with_lines facts Nothing 0 (lines_of text))

-- the line that says how clauses are read
abbrev pub kind_line : (forward : Bool) → List ℕ
kind_line forward = if forward then codes "clauses forward\n" else codes "clauses backward\n"

-- the text of clauses, which are read forward or backward
abbrev pub clauses_text : (forward : Bool) → List (List ℕ) → List ℕ
clauses_text forward clauses = kind_line forward ++ clause_lines clauses
