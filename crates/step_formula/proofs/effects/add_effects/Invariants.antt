use Rattle.std.proofs.Common.{◌≡◌, ◌++◌, take, drop}
use Rattle.gt_core.specs.Task.{effects_from}
use Rattle.gt_core.specs.Lawful.{conditional_in}
use Rattle.formula_defs.specs.Layout.{action_at, fact_at}
use Rattle.formula_defs.specs.Variables.{rows, rows_from, variable_at}
use Rattle.formula_defs.specs.Formula.{effect_clauses}
use Rattle.formula_defs.specs.Coded.{coded}
use Rattle.step_formula.proofs.effects.add_effects.Given as goal

abbrev pub invariant-loop-a : goal.invariant-loop-a
invariant-loop-a l =
    (l.first ≡ conditional_in (take l.a l.task.actions))
    × (l.initial.clauses ++ coded (effect_clauses (action_at l.layout 0) (fact_at l.layout 0) (fact_at l.layout 1) (variable_at l.layout 0) (rows l.task) (rows l.task))
    ≡ l.clauses ++ coded (effect_clauses (action_at l.layout 0) (fact_at l.layout 0) (fact_at l.layout 1) (variable_at l.layout 0) (rows l.task) (rows_from l.first (effects_from l.a (drop l.a l.task.actions)))))
