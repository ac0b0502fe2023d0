use Rattle.std.specs.Prelude.{ℕ, ◌+◌, ◌*◌, ◌/◌, ◌<◌, ◌≤◌, List, ◌++◌, map, length}
use Rattle.std.specs.List.{AllByRecursion}
use Rattle.formula_defs.specs.Layout.{Layout, width}
use Rattle.clause_base.specs.Formula.{Cnf}
use Rattle.formula_defs.specs.Shift.{moved_code}

-- a formula with more clauses at its end
abbrev pub added : Cnf → List (List ℕ) → Cnf
added formula clauses = record { name = formula.name; variables = formula.variables; clauses = formula.clauses ++ clauses }

-- a formula has room for so many more clauses
abbrev pub HasClauseRoom : Cnf → ℕ → Type 0
HasClauseRoom formula n = length formula.clauses + n ≤ 1073741824

-- the clauses of one step, moved to step t
abbrev pub step_part : Layout → List (List ℕ) → ℕ → List (List ℕ)
step_part z clauses t = map (map (moved_code (width z) (t * width z) (z.horizon * width z + t * z.facts))) clauses

-- the clauses of one time, moved to time t
abbrev pub time_part : Layout → List (List ℕ) → ℕ → List (List ℕ)
time_part z clauses t = map (map (moved_code 0 0 (z.horizon * width z + t * z.facts))) clauses

-- moved to each step, the clauses of one step have variables below a number
abbrev pub StepsFit : Layout → List (List ℕ) → ℕ → Type 0
StepsFit z clauses top = (t : ℕ) → t < z.horizon → AllByRecursion (λ c. AllByRecursion (λ l. moved_code (width z) (t * width z) (z.horizon * width z + t * z.facts) l / 2 < top) c) clauses

-- moved to each time, the clauses of one time have variables below a number
abbrev pub TimesFit : Layout → List (List ℕ) → ℕ → Type 0
TimesFit z clauses top = (t : ℕ) → t ≤ z.horizon → AllByRecursion (λ c. AllByRecursion (λ l. moved_code 0 0 (z.horizon * width z + t * z.facts) l / 2 < top) c) clauses
