use Rattle.std.proofs.Common.{sym, ◌∙◌}
use Rattle.step_formula.proofs.KnownLaw.{single_is, known_double}
use Rattle.step_formula.proofs.known.add_known.Goals as goal

pub returns : goal.returns
returns c =
    let known = c.args.pairs.now.clauses in
    known_double known c.args.l c.args.m c.args.clauses.now c.add_clause-2.new.clauses c.if-l-m.false
    (sym (single_is known c.args.l) ∙ sym c.has.ensures ∙ c.if-has.false)
    (sym (single_is known c.args.m) ∙ sym c.has-else-has.ensures ∙ c.if-has-2.false)
    c.in_ok-add_clause.ensures
