use Rattle.std.proofs.Common.{◌≡◌, [], ◌∷◌, ◌+◌, ◌++◌, map, length, drop}
use Rattle.formula_defs.specs.Layout.{fact_at}
use Rattle.formula_defs.specs.Clause.{code}
use Rattle.formula_defs.specs.Formula.{literal_over}
use Rattle.step_encoding.proofs.ends.add_goal.Given as goal

abbrev pub invariant-loop-lit : goal.invariant-loop-lit
invariant-loop-lit l =
    (l.formula.name ≡ l.initial.formula.name)
    × (l.formula.variables ≡ l.initial.formula.variables)
    × (l.initial.formula.clauses ++ map (λ m. code (literal_over (fact_at l.layout l.layout.horizon) m) ∷ []) l.task.goal
    ≡ l.formula.clauses ++ map (λ m. code (literal_over (fact_at l.layout l.layout.horizon) m) ∷ []) (drop l.lit-index l.task.goal))
    × (length l.formula.clauses ≡ length l.initial.formula.clauses + l.lit-index)
