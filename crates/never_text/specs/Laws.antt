-- What is written is read back.
use Rattle.std.specs.Prelude.{◌≡◌, ℕ, ◌*◌, ◌≤◌, List, Bool, true, false, Ok, length}
use Rattle.std.specs.List.{AllByRecursion}
use Rattle.never_text.specs.Certificate.{Certificate, Forward, Backward, most_literals, sorted, certificate_of, clauses_text}

-- clauses as they are read forward or backward
abbrev pub read_so : (forward : Bool) → List (List ℕ) → Certificate
read_so true = Forward
read_so false = Backward

-- a clause as it is read: over so many facts, in rising order and each literal once, and not too long
pub record IsAsRead (facts : ℕ) (clause : List ℕ) : Type 0 where
  pub sorted : sorted facts clause ≡ clause
  pub few : length clause ≤ most_literals

-- the text of such clauses is that certificate
abbrev pub WrittenIsRead : Type 0
WrittenIsRead =
    (facts : ℕ) (forward : Bool) (clauses : List (List ℕ)) → facts ≤ 1073741824 → AllByRecursion (IsAsRead facts) clauses
    → certificate_of facts (clauses_text forward clauses) ≡ Ok (read_so forward clauses)

-- literals in order, each once, are a clause as it is read
abbrev pub SortedIsAsRead : Type 0
SortedIsAsRead = (facts : ℕ) (lits : List ℕ) → 2 * facts ≤ most_literals → IsAsRead facts (sorted facts lits)
