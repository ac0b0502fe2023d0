use Rattle.std.proofs.Common.{◌∙◌, Ok, refl, ap, arith}
use Rattle.pl_io.specs.Tape.{Given, IsAtFront}
use Rattle.plan_endings.proofs.published.Stopped.{handed}
use Rattle.search_top.specs.declared.ended.Ended.TheVariants.{Plain}
use Rattle.search_top.specs.Refuted.{over_limit, unread, judged, ended_verdict}
use Rattle.search_top.proofs.refute.proof_judged.Goals as goal

pub returns-in_err-formula-clause-ended : goal.returns-in_err-formula-clause-ended
returns-in_err-formula-clause-ended g c = handed Plain _ _ (λ end h. over_limit end h refl) _ _ c.from_residual.ensures.1 c.in_err-formula.ensures.stops

pub returns-in_err-open-clause-ended : goal.returns-in_err-open-clause-ended
returns-in_err-open-clause-ended g c = handed Plain _ _ (λ end h. unread end h refl) _ _ c.from_residual-in_err-open.ensures.1 c.in_err-open.ensures.stops

pub returns-in_err-verdict-clause-ended : goal.returns-in_err-verdict-clause-ended
returns-in_err-verdict-clause-ended g c =
    handed Plain _ _ (λ end h. unread end (h.0, (let rose = h.1 in let later = c.open.ensures.later in omega (arith, rose, later))) refl) _ _ c.from_residual-in_err-verdict.ensures.1 c.in_err-verdict.ensures.stops

pub returns-clause-ended : goal.returns-clause-ended
returns-clause-ended g c =
    let f = c.in_ok-formula.formula in
    let verdict = c.in_ok-verdict.verdict in
    let given = c.in_ok-open.ensures.given in
    let front : IsAtFront (g.T.Tape.given c.open.new.tape) = record { none = ap (λ (given : Given). given.bytes) given; goes = ap (λ (given : Given). given.reading) given } in
    judged f verdict c.requires.first c.in_ok-formula.ensures.formula (c.verdict_on.ensures.opened ∙ ap (λ (given : Given). given.opened) given) (c.in_ok-verdict.ensures.verdict front)
    (λ entries e. c.in_ok-formula.ensures.refutes (c.in_ok-verdict.ensures.refuted entries (ap Ok e)) c.requires.first)
    (c.in_ok-end.ensures ∙ ap (λ count. ended_verdict count verdict) c.len.ensures)
