use Rattle.std.specs.Prelude.{◌≡◌, ℕ, ◌+◌, List, [], ◌∷◌, ◌++◌, map, length}
use Rattle.std.specs.List.{filter_map}
use Rattle.gt_core.specs.Task.{Task}
use Rattle.formula_defs.specs.Layout.{variables}
use Rattle.clause_base.specs.Clause.{clause_of}
use Rattle.clause_base.specs.Formula.{Cnf}
use Rattle.formula_defs.specs.Clause.{Literal, code}
use Rattle.formula_defs.specs.Variables.{layout_of}
use Rattle.formula_defs.specs.Formula.{clauses_of_horizon}

-- clauses in codes, each sorted and with equal literals once; a clause with an opposite pair is left out
abbrev pub coded : List (List Literal) → List (List ℕ)
coded clauses = filter_map (λ c. clause_of (map code c)) clauses

-- a list of clauses in codes got these at its end
abbrev pub Appends : List (List ℕ) → List (List ℕ) → List (List Literal) → Type 0
Appends old new clauses = new ≡ old ++ coded clauses

-- how many literals there are in clauses
abbrev pub literals_in : List (List ℕ) → ℕ
literals_in [] = 0
literals_in (c ∷ cs) = length c + literals_in cs

-- the formula of horizon n, which has the name n
abbrev pub formula_of : Task → List (ℕ × ℕ) → List (List ℕ × ℕ) → ℕ → Cnf
formula_of task pairs places n = record {
  name = n;
  variables = variables (layout_of task places n);
  clauses = coded (clauses_of_horizon task pairs places n);
}

-- how many literals the formula of horizon n has
abbrev pub size_of : Task → List (ℕ × ℕ) → List (List ℕ × ℕ) → ℕ → ℕ
size_of task pairs places n = literals_in (formula_of task pairs places n).clauses
