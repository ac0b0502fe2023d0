use Rattle.std.proofs.Common.{ap, ◌∙◌, subst}
use Rattle.clause_base.specs.Formula.{Cnf, Satisfies, assignment_of}
use Rattle.sat_text.specs.FirstFalse.{IsFirstFalse}
use Rattle.sat_text.specs.Values.{Values}
use Rattle.judge_top.specs.Answers.{IsReadAs}
use Rattle.judge_top.proofs.model.told_values.Goals as goal

pub returns-in-Some-clause-told : goal.returns-in-Some-clause-told
returns-in-Some-clause-told g c tape read =
    let f = c.requires.formula in
    (c.args.values.now, subst (λ (x : Cnf). IsReadAs x.variables tape.given (Values c.args.values.now)) f read, subst (λ (x : Cnf). IsFirstFalse (assignment_of c.args.values.now) x.clauses c.in-Some.clause) f c.in-Some.ensures.first)

pub steps_of-requires-clause-model : goal.steps_of-requires-clause-model
steps_of-requires-clause-model g c = let f = c.requires.formula in record {
  long = c.requires.long ∙ ap (λ (x : Cnf). x.variables) f;
  satisfies = subst (λ (x : Cnf). Satisfies (assignment_of c.args.values.now) x.clauses) f c.in_default.ensures.satisfies;
}

pub returns-clause-told : goal.returns-clause-told
returns-clause-told g c tape read =
    let f = c.requires.formula in (
      c.args.values.now,
      subst (λ (x : Cnf). IsReadAs x.variables tape.given (Values c.args.values.now)) f read,
      record { long = c.requires.long ∙ ap (λ (x : Cnf). x.variables) f; satisfies = subst (λ (x : Cnf). Satisfies (assignment_of c.args.values.now) x.clauses) f c.in_default.ensures.satisfies },
      c.in_ok-steps.ensures,
    )
