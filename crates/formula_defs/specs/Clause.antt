use Rattle.std.specs.Prelude.{◌≡◌, ℕ, ◌+◌, ◌*◌, List, Bool, true, not}
use Rattle.std.specs.List.{list_any, AllByRecursion}

-- a literal of a formula: a variable, or its negation
pub data Literal : Type 0 where
  Is : ℕ → Literal
  Not : ℕ → Literal

-- the truth of a literal under an assignment
abbrev pub truth : (ℕ → Bool) → Literal → Bool
truth v (Is k) = v k
truth v (Not k) = not (v k)

-- the code of a literal: 2v for variable v, 2v + 1 for its negation
abbrev pub code : Literal → ℕ
code (Is k) = 2 * k
code (Not k) = 2 * k + 1

-- some literal of a clause is true
abbrev pub clause_true : (ℕ → Bool) → List Literal → Bool
clause_true v clause = list_any (truth v) clause

-- an assignment makes every clause true
abbrev pub AllTrue : (ℕ → Bool) → List (List Literal) → Type 0
AllTrue v clauses = AllByRecursion (λ c. clause_true v c ≡ true) clauses
