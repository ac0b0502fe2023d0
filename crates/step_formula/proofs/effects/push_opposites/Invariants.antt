use Rattle.std.proofs.Common.{◌≡◌, ◌++◌, map, drop}
use Rattle.gt_core.specs.Literal.{opposite}
use Rattle.formula_defs.specs.Layout.{fact_at}
use Rattle.formula_defs.specs.Clause.{code}
use Rattle.formula_defs.specs.Formula.{literal_over}
use Rattle.step_formula.proofs.effects.push_opposites.Given as goal

abbrev pub invariant-loop-lit : goal.invariant-loop-lit
invariant-loop-lit l =
    l.initial.lits.items ++ map code (map (λ m. literal_over (fact_at l.layout 0) (opposite m)) l.condition)
    ≡ l.lits.items ++ map code (map (λ m. literal_over (fact_at l.layout 0) (opposite m)) (drop l.lit-index l.condition))
