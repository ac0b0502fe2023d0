use Rattle.std.proofs.Common.{◌≡◌, ◌∙◌, ◌++◌, ℕ, List, Ok, take, ap, arith, subst}
use Rattle.clause_base.specs.Formula.{Cnf, IsUnsatisfiable}
use Rattle.lrat_judge.specs.Verdicts.{verdict_of}
use Rattle.lrat_judge.specs.declared.verdict.Verdict.TheVariants.{Refuted}
use Rattle.proof_verdict.proofs.published.Given.{some_taken, verdict_early, verdict_at_end}
use Rattle.proof_verdict.proofs.verdict.verdict_on.Goals as goal

pub returns-in_default-clause-refuted : goal.returns-in_default-clause-refuted
returns-in_default-clause-refuted g c entries e =
    let is : c.in_ok-last.last ≡ Refuted entries = cc in
    subst (λ (f : Cnf). IsUnsatisfiable f.clauses) c.reading.invariant.formula (c.in_ok-last.ensures.refuted entries (ap Ok is))

pub returns-in_default-clause-verdict : goal.returns-in_default-clause-verdict
returns-in_default-clause-verdict g c front =
    let i = c.reading.invariant in
    let said = c.in_ok-last.ensures.verdict (g.T.Tape.given c.reading.tape).bytes (i.read front) ∙ ap (λ (f : Cnf). verdict_of f (g.T.Tape.given c.reading.tape).bytes) i.formula in
    verdict_at_end (g.T.Tape.given c.reading.tape) (g.T.Tape.given c.next.new.tape) (i.goes front) (c.in_ok-count.ensures.end (ap Ok c.in_default.is)) c.args.formula.now c.in_ok-last.last said

pub returns-in_default-2 : goal.returns-in_default-2
returns-in_default-2 g c = record {
  refuted = λ entries e. let is : c.in_ok-verdict.verdict ≡ Refuted entries = cc in subst (λ (f : Cnf). IsUnsatisfiable f.clauses) c.reading.invariant.formula (c.in_ok-verdict.ensures.refuted entries (ap Ok is));
  verdict = λ front.
      let i = c.reading.invariant in
      let given = rw c.in-Some.is at c.in_ok-count.ensures.given in
      let piece = take c.in-Some.count c.next.new.piece in
      let said = c.in_ok-verdict.ensures.verdict (g.T.Tape.given c.reading.tape).bytes (i.read front) c.in_default-2.not-More in
      let all = λ (more : List ℕ). said more ∙ ap (λ (f : Cnf). verdict_of f (((g.T.Tape.given c.reading.tape).bytes ++ piece) ++ more)) i.formula in
      verdict_early (g.T.Tape.given c.reading.tape) (g.T.Tape.given c.next.new.tape) (i.goes front) piece given.1 (some_taken _ _ given.0 (rw c.in-Some.is at c.in_ok-count.ensures.bound)) c.args.formula.now c.in_ok-verdict.verdict all;
  opened = c.next.ensures.opened ∙ c.reading.invariant.opened;
  stops = tt;
  later = omega (arith, c.reading.invariant.faults, c.next.ensures.later);
}
