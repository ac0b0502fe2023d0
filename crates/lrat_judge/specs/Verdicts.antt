-- The verdict on the text of a proof: on its first line that does not follow, or is none, or is too long, or adds the empty clause.
use Rattle.std.specs.Prelude.{ℕ, ◌+◌, Bool, List, [], ◌∷◌, ◌++◌, length, nat_lt, Option, Some, None, if◌then◌else◌}
use Rattle.std.specs.List.{list_any}
use Rattle.containers.specs.Limits.{certificate_bytes}
use Rattle.clause_base.specs.Formula.{Cnf}
use Rattle.clause_base.specs.Derivation.{learns_empty}
use Rattle.sat_text.specs.Words.{words_of}
use Rattle.sat_text.specs.LratLine.{LineView, line_of, is_passed}
pub use Rattle.sat_text.specs.Lines.{whole_lines, last_part, counted}
pub use Rattle.lrat_judge.specs.Judged.{has_empty}
use Rattle.lrat_judge.specs.Follow.{Known, known_first, follow}
use Rattle.lrat_judge.specs.declared.verdict.Verdict.{Verdict}
use Rattle.lrat_judge.specs.declared.verdict.Verdict.TheVariants.{More, Refuted, Rejected, NotEmpty, Syntax, TooLong}

-- how many bytes a line may have, without its LF: as many as a certificate
abbrev pub most_line : ℕ
most_line = certificate_bytes

-- what a line comes to: the judging ends with a verdict, or goes on with what is then known
pub data Outcome : Type 0 where
  Ends : Verdict → Outcome
  Goes : Known → Outcome

-- what a line comes to that follows, and after which this is known, or that does not
abbrev pub outcome_known : ℕ → Option Known → Outcome
outcome_known count None = Ends (Rejected (counted (count + 1)))
outcome_known count (Some known) = if list_any learns_empty known.log then Ends (Refuted (counted (length known.log))) else Goes known

-- what bytes come to that spell this line, or none; where they tell nothing they are passed over
abbrev pub outcome_line : Cnf → Known → (at count : ℕ) → Bool → Option LineView → Outcome
outcome_line formula known at count passed None = if passed then Goes known else Ends (Syntax (counted at))
outcome_line formula known at count passed (Some line) = outcome_known count (follow formula known line)

-- what the bytes of a line come to
unfoldable pub outcome_of : Cnf → Known → (at count : ℕ) → List ℕ → Outcome
outcome_of formula known at count bytes =
    if nat_lt most_line (length bytes) then Ends (TooLong (counted (count + 1))) else outcome_line formula known at count (is_passed (words_of bytes)) (line_of bytes)

-- the verdict on lines, where this is known, of which the first begins at an offset and so many stand before it
abbrev pub judged : Cnf → Known → (at count : ℕ) → List (List ℕ) → Verdict
judged formula known at count [] = More
judged formula known at count (bytes ∷ lines) = elim (outcome_of formula known at count bytes) [
  | Ends verdict ↦ verdict
  | Goes next ↦ judged formula next (at + length bytes + 1) (count + 1) lines
]

-- the verdict on a text that has ended, where this is the one on its lines
abbrev pub verdict_ended : Verdict → Verdict
verdict_ended More = NotEmpty
verdict_ended verdict = verdict

-- the verdict on the text of a proof by its lines, of which the last may lack its LF
abbrev pub verdict_by : Cnf → List ℕ → Verdict
verdict_by formula text = verdict_ended (judged formula (known_first formula) 0 0 (whole_lines text ++ last_part text ∷ []))

-- the verdict on the text of a proof; a formula that has the empty clause is refuted before the first line
unfoldable pub verdict_of : Cnf → List ℕ → Verdict
verdict_of formula text = if has_empty formula.clauses then Refuted 0 else verdict_by formula text
