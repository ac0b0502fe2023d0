use Rattle.std.proofs.Common.{◌≡◌, ◌∷◌, [], ◌++◌, map, drop}
use Rattle.formula_defs.specs.Layout.{fact_at}
use Rattle.formula_defs.specs.Clause.{Not}
use Rattle.formula_defs.specs.Formula.{literal_over}
use Rattle.formula_defs.specs.Coded.{coded}
use Rattle.step_formula.proofs.effects.add_conditions.Given as goal

abbrev pub invariant-loop-lit : goal.invariant-loop-lit
invariant-loop-lit l =
    l.initial.clauses ++ coded (map (λ m. Not l.variable ∷ literal_over (fact_at l.layout 0) m ∷ []) l.condition)
    ≡ l.clauses ++ coded (map (λ m. Not l.variable ∷ literal_over (fact_at l.layout 0) m ∷ []) (drop l.lit-index l.condition))
