-- Certificates as texts: a line that names a horizon, then a line for each entry of a log. A line is its words, with a blank
-- between them.
use Rattle.std.specs.Prelude.{◌≤◌, ℕ, List, [], ◌∷◌, ◌++◌, map, codes, decimal}
use Rattle.std.specs.List.{AllByRecursion}
use Rattle.report_lines.specs.Lines.{joined}
use Rattle.clause_base.specs.Clause.{IsClause}
use Rattle.clause_base.specs.declared.log.Entry.{Entry}
use Rattle.clause_base.specs.declared.log.Entry.TheVariants.{Learn, Drop}

-- each word after a blank
abbrev pub after_blanks : List (List ℕ) → List ℕ
after_blanks [] = []
after_blanks (word ∷ words) = 32 ∷ (word ++ after_blanks words)

-- the line of these words
abbrev pub spaced : List (List ℕ) → List ℕ
spaced [] = []
spaced (word ∷ words) = word ++ after_blanks words

-- the first line names the horizon
abbrev pub horizon_words : ℕ → List (List ℕ)
horizon_words horizon = codes "horizon" ∷ decimal horizon ∷ []

-- a learned clause by its codes, with the numbers of its hints; a dropped one by its number
abbrev pub entry_words : Entry → List (List ℕ)
entry_words (Learn clause hints) = codes "learn" ∷ (map decimal clause ++ codes "by" ∷ map decimal hints)
entry_words (Drop number) = codes "drop" ∷ decimal number ∷ []

-- the line of an entry
abbrev pub entry_line : Entry → List ℕ
entry_line e = spaced (entry_words e)

-- the lines of a certificate
abbrev pub proof_lines : ℕ → List Entry → List (List ℕ)
proof_lines horizon log = spaced (horizon_words horizon) ∷ map entry_line log

-- the one text of a horizon and a log
abbrev pub proof_text : ℕ → List Entry → List ℕ
proof_text horizon log = joined (proof_lines horizon log)

-- numbers that are written: at most 4,294,967,295
abbrev pub AreSmall : List ℕ → Type 0
AreSmall numbers = AllByRecursion (λ n. n ≤ 4294967295) numbers

-- an entry that has a line: its numbers are small, and its codes are those of a clause
abbrev pub IsWritten : Entry → Type 0
IsWritten (Learn clause hints) = IsClause clause × AreSmall clause × AreSmall hints
IsWritten (Drop number) = number ≤ 4294967295

-- each entry of a log has a line
abbrev pub AreWritten : List Entry → Type 0
AreWritten log = AllByRecursion IsWritten log
