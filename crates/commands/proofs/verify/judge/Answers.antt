use Rattle.std.proofs.Common.{Err, ap, subst}
use Rattle.clause_base.specs.Formula.{Cnf, IsUnsatisfiable}
use Rattle.clause_base.specs.Derivation.{IsFirstUnderived}
use Rattle.commands.specs.Judged.{IsJudged}
use Rattle.commands.specs.declared.verify.Judged.TheVariants.{NotEmpty}
use Rattle.commands.proofs.verify.judge.Goals as goal

pub returns-in-Ok-check-clause-none : goal.returns-in-Ok-check-clause-none
returns-in-Ok-check-clause-none g c entries e steps plan =
    g.F.StepForm.refutes c.args.form.now c.args.proof.now.horizon c.size-count.ensures.lawful
    (subst (λ (f : Cnf). IsUnsatisfiable f.clauses) c.in-Ok.ensures.formula c.in-Ok-check.ensures.unsatisfiable) steps plan

pub returns-in-Err-Rejected-clause-judged : goal.returns-in-Err-Rejected-clause-judged
returns-in-Err-Rejected-clause-judged g c =
    let entry = c.in-Err-Rejected.entry in
    subst (λ (f : Cnf). IsFirstUnderived f.variables f.clauses c.args.proof.now.log entry) c.in-Ok.ensures.formula
    (c.in-Err-Rejected.ensures.rejected entry (ap Err c.in-Err-Rejected.field-0-is))

pub returns-in-Err-NotEmpty-clause-judged : goal.returns-in-Err-NotEmpty-clause-judged
returns-in-Err-NotEmpty-clause-judged g c =
    subst (λ (f : Cnf). IsJudged f c.args.proof.now.log NotEmpty) c.in-Ok.ensures.formula
    (c.in-Err-NotEmpty.ensures.not_empty (ap Err c.in-Err-NotEmpty.field-0-is))
