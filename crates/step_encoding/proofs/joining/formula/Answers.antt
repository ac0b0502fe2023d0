use Rattle.step_encoding.proofs.Joined.{whole_by}
use Rattle.std.proofs.Common.{arith, ap, length}
use Rattle.clause_base.specs.Formula.{Cnf}
use Rattle.step_encoding.proofs.joining.formula.Goals as goal

pub returns : goal.returns
returns c =
    whole_by c.repeat.result _ _ c.in_ok-formula.formula c.add_initial.new.formula c.add_hopeless.new.formula c.add_goal.new.formula _ _ _ _ _ c.in_ok-formula.ensures c.in_ok-add_initial.ensures.added c.in_ok-add_hopeless.ensures.added c.in_ok-add_goal.ensures.added c.in_ok-part.ensures.clauses c.repeat.ensures

pub repeat-requires-clause-fits : goal.repeat-requires-clause-fits
repeat-requires-clause-fits c =
    let variables = λ (f : Cnf). f.variables in
    omega (arith, c.in_ok-part.ensures.variables, ap variables c.in_ok-add_goal.ensures.added, ap variables c.in_ok-add_hopeless.ensures.added, ap variables c.in_ok-add_initial.ensures.added, ap variables c.in_ok-formula.ensures)

pub repeat-requires-clause-room : goal.repeat-requires-clause-room
repeat-requires-clause-room c =
    omega (arith, c.in_ok-part.ensures.long, c.in_ok-add_goal.ensures.few, c.in_ok-add_hopeless.ensures.few, c.in_ok-add_initial.ensures.few, ap (λ (f : Cnf). length f.clauses) c.in_ok-formula.ensures, c.requires.few)
