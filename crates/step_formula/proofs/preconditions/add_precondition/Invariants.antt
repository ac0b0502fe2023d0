use Rattle.std.proofs.Common.{◌≡◌, ◌∷◌, [], ◌++◌, map, drop}
use Rattle.formula_defs.specs.Layout.{action_at, fact_at}
use Rattle.formula_defs.specs.Clause.{Not}
use Rattle.formula_defs.specs.Formula.{literal_over}
use Rattle.formula_defs.specs.Coded.{coded}
use Rattle.step_formula.proofs.preconditions.add_precondition.Given as goal

abbrev pub invariant-loop-lit : goal.invariant-loop-lit
invariant-loop-lit l =
    l.initial.clauses ++ coded (map (λ m. Not (action_at l.layout 0 l.action) ∷ literal_over (fact_at l.layout 0) m ∷ []) l.precondition)
    ≡ l.clauses ++ coded (map (λ m. Not (action_at l.layout 0 l.action) ∷ literal_over (fact_at l.layout 0) m ∷ []) (drop l.lit-index l.precondition))
