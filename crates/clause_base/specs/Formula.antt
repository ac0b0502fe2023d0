use Rattle.std.specs.Prelude.{◌≡◌, ℕ, List, Bool, true, false, All, length, slice_get, unwrap_or}
use Rattle.std.specs.List.{AllByRecursion}
use Rattle.clause_base.specs.Clause.{clause_value, HasVariablesBelow}

-- a formula in conjunctive normal form, as its name, its number of variables and its clauses in order
pub record Cnf : Type 0 where
  pub name : ℕ
  pub variables : ℕ
  pub clauses : List (List ℕ)

-- the variables of each clause are among the formula's
abbrev pub IsWithinVariables : Cnf → Type 0
IsWithinVariables f = All (HasVariablesBelow f.variables) f.clauses

-- an assignment makes every clause true
abbrev pub Satisfies : (ℕ → Bool) → List (List ℕ) → Type 0
Satisfies values clauses = AllByRecursion (λ c. clause_value values c ≡ true) clauses

-- no assignment makes every clause true
abbrev pub IsUnsatisfiable : List (List ℕ) → Type 0
IsUnsatisfiable clauses = (values : ℕ → Bool) → Satisfies values clauses → ⊥

-- the assignment that a list of values stands for: variable v has the value at place v, and is false past the end
abbrev pub assignment_of : List Bool → ℕ → Bool
assignment_of values v = unwrap_or (slice_get values v) false

-- the values are as many as the formula's variables, and satisfy it
pub record IsModel (f : Cnf) (values : List Bool) : Type 0 where
  pub long : length values ≡ f.variables
  pub satisfies : Satisfies (assignment_of values) f.clauses
