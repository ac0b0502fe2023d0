use Rattle.std.specs.Prelude.{ℕ, List, Bool}
use Rattle.clause_base.specs.Formula.{Satisfies}
use Rattle.formula_defs.specs.Clause.{Literal, AllTrue}
use Rattle.formula_defs.specs.Coded.{coded}

-- an assignment makes clauses true where it makes their codes true
abbrev pub CodesSayEnough : Type 0
CodesSayEnough = (v : ℕ → Bool) (clauses : List (List Literal)) → Satisfies v (coded clauses) → AllTrue v clauses

-- an assignment that makes clauses true makes their codes true
abbrev pub CodesSayNoMore : Type 0
CodesSayNoMore = (v : ℕ → Bool) (clauses : List (List Literal)) → AllTrue v clauses → Satisfies v (coded clauses)
