use Rattle.std.proofs.Common.{◌≡◌, ◌++◌}
use Rattle.gt_core.specs.Literal.{range}
use Rattle.formula_defs.specs.Layout.{fact_at}
use Rattle.formula_defs.specs.Variables.{rows, variable_at}
use Rattle.formula_defs.specs.Formula.{frame_clauses}
use Rattle.formula_defs.specs.Coded.{coded}
use Rattle.step_formula.proofs.frames.add_frames.Given as goal

abbrev pub invariant-loop-f : goal.invariant-loop-f
invariant-loop-f l = l.clauses ≡ l.initial.clauses ++ coded (frame_clauses (fact_at l.layout 0) (fact_at l.layout 1) (variable_at l.layout 0) (rows l.task) (range l.f))
