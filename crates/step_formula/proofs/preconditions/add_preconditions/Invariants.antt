use Rattle.std.proofs.Common.{◌≡◌, ◌++◌, drop}
use Rattle.formula_defs.specs.Layout.{action_at, fact_at}
use Rattle.formula_defs.specs.Formula.{precondition_clauses}
use Rattle.formula_defs.specs.Coded.{coded}
use Rattle.step_formula.proofs.preconditions.add_preconditions.Given as goal

abbrev pub invariant-loop-a : goal.invariant-loop-a
invariant-loop-a l =
    l.initial.clauses ++ coded (precondition_clauses (action_at l.layout 0) (fact_at l.layout 0) 0 l.task.actions)
    ≡ l.clauses ++ coded (precondition_clauses (action_at l.layout 0) (fact_at l.layout 0) l.a (drop l.a l.task.actions))
