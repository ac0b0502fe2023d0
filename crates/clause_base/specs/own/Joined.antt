-- The parts of a formula's list of clauses.
use Rattle.std.specs.Prelude.{ℕ, ◌≤◌, List, ◌++◌, length, All}
use Rattle.clause_base.specs.Clause.{HasVariablesBelow}
use Rattle.clause_base.specs.Repeats.{Repeats, repeated, variables_of}

-- clauses, then those of a repeated part, then others
abbrev pub joined : List (List ℕ) → Repeats → List (List ℕ) → List (List ℕ)
joined told part after = told ++ (repeated part ++ after)

-- there are not too many variables and clauses, and those of the parts are among the variables: so codes and numbers have 32 bits, and
-- a table by variable has a place for each literal that is read
pub record IsJoined (variables : ℕ) (told : List (List ℕ)) (part : Repeats) (after : List (List ℕ)) : Type 0 where
  pub small : variables ≤ 2147483647
  pub few : length (joined told part after) ≤ 1073741824
  pub below : All (HasVariablesBelow variables) (joined told part after)
  pub fits : variables_of part ≤ variables
