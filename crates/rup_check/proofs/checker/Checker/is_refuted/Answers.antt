use Rattle.clause_base.specs.Formula.{IsUnsatisfiable}
use Rattle.rup_check.specs.Taken.{CheckerView}
use Rattle.std.proofs.Common.{subst}
use Rattle.rup_check.proofs.checker.Checker.is_refuted.Goals as goal

pub returns-clause-unsatisfiable : goal.returns-clause-unsatisfiable
returns-clause-unsatisfiable c = λ t. subst (λ (v : CheckerView). IsUnsatisfiable v.formula.clauses) c.self.view_is (c.self.invariant.0.unsatisfiable t)
