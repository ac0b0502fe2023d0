-- What breaks no clause that is not lost.
use Rattle.std.specs.Prelude.{◌≡◌, ℕ, List, Bool, true, false}
use Rattle.implied_literals.specs.Rows.{clause_in}

-- a literal is in a set where it stands in a clause with another that is not lost
abbrev pub IsKept : List (List ℕ) → List (List ℕ) → (ℕ → Bool) → ℕ → ℕ → Type 0
IsKept clauses lost set l m = clause_in clauses l m ≡ true → clause_in lost l m ≡ false → set m ≡ true
