use Rattle.std.proofs.Common.{◌∙◌, ℕ, List, Bool, sym, ap, subst}
use Rattle.clause_base.specs.Formula.{Cnf}
use Rattle.sat_text.specs.Values.{Values, refused_by}
use Rattle.sat_text.proofs.published.ValueReading.{values_are}
use Rattle.proof_verdict.specs.Verdict.{tape_run}
use Rattle.judge_top.specs.Answers.{IsReadAs}
use Rattle.proof_verdict.proofs.published.Given.{itself}
use Rattle.judge_top.proofs.model.told_of.Goals as goal

pub told_values-requires-clause-long : goal.told_values-requires-clause-long
told_values-requires-clause-long g c =
    let given = g.T.Tape.given c.read_given.new.tape in
    let read = subst (λ (n : ℕ). IsReadAs n given (Values c.in-Values.reader.table.truths)) c.variables.ensures.value (rw c.in-Values.is at c.in_ok-read_given.ensures.given) in
    values_are c.in_ok-formula.formula.variables given.bytes c.as_slice.result.now (read.is given.bytes (itself given) ∙ ap Values (sym c.as_slice.ensures))

pub returns-in-Refused-clause-told : goal.returns-in-Refused-clause-told
returns-in-Refused-clause-told g c =
    let given = g.T.Tape.given c.read_given.new.tape in
    subst (λ (n : ℕ). IsReadAs n given (refused_by c.in-Refused.refused)) (c.variables.ensures.value ∙ ap (λ (x : Cnf). x.variables) c.in_ok-formula.ensures.formula) (rw c.in-Refused.is at c.in_ok-read_given.ensures.given)

pub returns-clause-told : goal.returns-clause-told
returns-clause-told g c =
    let given = g.T.Tape.given c.read_given.new.tape in
    let read = subst (λ (n : ℕ). IsReadAs n given (Values c.in-Values.reader.table.truths)) c.variables.ensures.value (rw c.in-Values.is at c.in_ok-read_given.ensures.given) in
    let told = subst (λ (values : List Bool). IsReadAs c.in_ok-formula.formula.variables given (Values values)) (sym c.as_slice.ensures) read in
    c.in_ok-told-in-Values.ensures.told (tape_run (g.T.Tape.faults c.args.tape.now) (g.T.Tape.faults c.read_given.new.tape) (g.T.Tape.given c.args.tape.now) given) told
