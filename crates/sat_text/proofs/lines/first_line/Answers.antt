use Rattle.std.proofs.Common.{arith, get_or, length}
use Rattle.std.proofs.lemmas.Bool.{eqb-true}
use Rattle.sat_text.proofs.published.Texts.{cut_at, no_end_all, no_end_before}
use Rattle.sat_text.proofs.lines.first_line.Goals as goal

pub returns-in_err-place-clause-none : goal.returns-in_err-place-clause-none
returns-in_err-place-clause-none c =
    let text = c.args.text.now in
    rw c.from_residual.ensures (no_end_all text (length text) (omega arith) (no_end_before text (length text) (omega arith) c.in_err-place.ensures))

pub returns-clause-some : goal.returns-clause-some
returns-clause-some c =
    let text = c.args.text.now in
    let place = c.in_ok-place.place in
    let is = c.in_ok-place.ensures in
    let less = is.0.high in
    (no_end_before text place (omega (arith, less)) is.0.before, cut_at text place less (eqb-true (get_or text place 0) 10 is.1))
