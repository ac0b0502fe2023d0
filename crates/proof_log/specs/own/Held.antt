-- The entries of a log: the clauses that they learn in a list, and the rest of them as bytes.
use Rattle.std.specs.Prelude.{◌≡◌, ℕ, zero, suc, ◌+◌, ◌*◌, ◌/◌, ◌%◌, ◌^◌, ◌<◌, ◌==◌, List, [], ◌∷◌, ◌++◌, length, All, if◌then◌else◌}
use Rattle.proof_log.specs.own.Number.{bytes_of, number_of, after_number}
use Rattle.proof_log.specs.own.Numbers.{steps_of, numbers_of, after_numbers}
use Rattle.clause_base.specs.Clause.{IsClause}
use Rattle.clause_base.specs.Derivation.{clauses_of}
use Rattle.clause_base.specs.declared.log.Entry.{Entry}
use Rattle.clause_base.specs.declared.log.Entry.TheVariants.{Learn, Drop}

-- the bytes of hints: twice their number, and the hints
abbrev pub hint_bytes : List ℕ → List ℕ
hint_bytes hints = bytes_of (2 * length hints) ++ steps_of 0 hints

-- the bytes of an entry: those of its hints, or one more than twice the number that it drops
abbrev pub entry_bytes : Entry → List ℕ
entry_bytes (Learn clause hints) = hint_bytes hints
entry_bytes (Drop number) = bytes_of (2 * number + 1)

-- the bytes of the entries, one after another
abbrev pub log_bytes : List Entry → List ℕ
log_bytes [] = []
log_bytes (entry ∷ log) = entry_bytes entry ++ log_bytes log

-- the first of some clauses, and the others
abbrev pub first_clause : List (List ℕ) → List ℕ
first_clause [] = []
first_clause (clause ∷ others) = clause

-- the clauses after the first
abbrev pub other_clauses : List (List ℕ) → List (List ℕ)
other_clauses [] = []
other_clauses (clause ∷ others) = others

-- the entry that bytes begin with, where these clauses are learned from there on
abbrev pub entry_of : List (List ℕ) → List ℕ → Entry
entry_of clauses bytes =
    if number_of bytes % 2 == 0 then Learn (first_clause clauses) (numbers_of (number_of bytes / 2) 0 (after_number bytes)) else Drop (number_of bytes / 2 % 4294967296)

-- the clauses that are learned after it
abbrev pub clauses_after : List (List ℕ) → List ℕ → List (List ℕ)
clauses_after clauses bytes = if number_of bytes % 2 == 0 then other_clauses clauses else clauses

-- the bytes after it
abbrev pub after_entry : List ℕ → List ℕ
after_entry bytes = if number_of bytes % 2 == 0 then after_numbers (number_of bytes / 2) (after_number bytes) else after_number bytes

-- so many entries that bytes begin with
abbrev pub entries_of : ℕ → List (List ℕ) → List ℕ → List Entry
entries_of zero clauses bytes = []
entries_of (suc k) clauses bytes = entry_of clauses bytes ∷ entries_of k (clauses_after clauses bytes) (after_entry bytes)

-- so few numbers that each fits its type
pub record AreFew (numbers : List ℕ) : Type 0 where
  pub small : All (λ n. n < 2 ^ 32) numbers
  pub few : length numbers < 2 ^ 62

-- the numbers of an entry fit their types, and its literals are a clause
abbrev pub IsSmall : Entry → Type 0
IsSmall (Learn clause hints) = IsClause clause × AreFew hints
IsSmall (Drop number) = number < 2 ^ 32

-- each entry has numbers that fit their types, and learns a clause
abbrev pub AreSmall : List Entry → Type 0
AreSmall [] = Unit {0}
AreSmall (entry ∷ log) = IsSmall entry × AreSmall log

-- so many entries, which learn these clauses, stand in these bytes: so a reader finds what was put in, and tests nothing of its form
pub record IsHeld (log : List Entry) (count : ℕ) (learned : List (List ℕ)) (bytes : List ℕ) : Type 0 where
  pub count_is : count ≡ length log
  pub learned_are : learned ≡ clauses_of log
  pub bytes_are : bytes ≡ log_bytes log
  pub small : AreSmall log
