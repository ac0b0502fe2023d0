use Rattle.std.proofs.Common.{rules, ◌≡◌, ◌∙◌, ap, sym, Result, Ok, Err}
use Rattle.std.specs.Prelude.{IsErrAnd}
use Rattle.clause_base.proofs.published.Refutation.{unsatisfiable_from_refutation}
use Rattle.rup_check.specs.Certificate.{Stamp}
use Rattle.rup_check.specs.declared.check.CheckError.{CheckError}
use Rattle.rup_check.proofs.check.check.Goals as goal

-- a fault is handed on as it is
handed_on : (r : Result Stamp CheckError) (fault other : CheckError) → IsErrAnd r (λ f. f ≡ fault) → r ≡ Err other → ◌≡◌ {A = Result (Unit {0}) CheckError} (Err fault) (Err other)
handed_on (Ok x) fault other h e = absurd h
handed_on (Err f) fault other h e = let same : f ≡ other = cc in ap (λ (x : CheckError). Err x) (sym h ∙ same)

pub returns-clause-certified : goal.returns-clause-certified
returns-clause-certified c =
    let refuted = c.in_ok-go_through.ensures.refuted in
    record {
      name = search rules;
      entries = search rules;
      refutation = refuted;
      unsatisfiable = unsatisfiable_from_refutation c.args.formula.now.variables c.args.formula.now.clauses c.args.log.now refuted;
    }

pub returns-clause-unsatisfiable : goal.returns-clause-unsatisfiable
returns-clause-unsatisfiable c = unsatisfiable_from_refutation c.args.formula.now.variables c.args.formula.now.clauses c.args.log.now c.in_ok-go_through.ensures.refuted

pub returns-in_err-go_through-clause-rejected : goal.returns-in_err-go_through-clause-rejected
returns-in_err-go_through-clause-rejected c = λ e told. c.in_err-go_through.ensures.rejected e (handed_on c.from_residual.result c.in_err-go_through.field-0.0 _ c.from_residual.ensures.1 told)
