use Rattle.std.proofs.Common.{Err, ap, refl, subst}
use Rattle.clause_base.specs.Formula.{Cnf, IsUnsatisfiable}
use Rattle.judge_top.proofs.formula.formula_of.Goals as goal

pub returns-in-Ok-clause-refutes : goal.returns-in-Ok-clause-refutes
returns-in-Ok-clause-refutes g c unsatisfiable steps plan =
    g.F.StepForm.refutes c.args.form.now c.args.horizon c.size-lawful.ensures.lawful (subst (λ (f : Cnf). IsUnsatisfiable f.clauses) c.in-Ok.ensures.formula unsatisfiable) steps plan

pub returns-in-Err-Literals-clause-stops : goal.returns-in-Err-Literals-clause-stops
returns-in-Err-Literals-clause-stops g c =
    let over = c.in-Err-Literals.ensures.literals c.in-Err-Literals.count (ap Err c.in-Err-Literals.field-0-is) in
    (c.in-Err-Literals.count, refl, over.0, over.1)
