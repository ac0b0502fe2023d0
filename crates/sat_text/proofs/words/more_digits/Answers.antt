use Rattle.std.proofs.Common.{◌∙◌, sym, ap}
use Rattle.sat_text.specs.Words.{value_with}
use Rattle.sat_text.specs.own.Cut.{digits_front}
use Rattle.sat_text.proofs.WordsLaws.{digits_more}
use Rattle.sat_text.proofs.Digits.{still_large}
use Rattle.sat_text.proofs.words.more_digits.Goals as goal

pub returns-in_err-number-clause-none : goal.returns-in_err-number-clause-none
returns-in_err-number-clause-none c =
    let some = c.in-Some.ensures.some in
    let digit = c.in-Some.digit in
    let more = c.in-Some.more.now in
    let front = ap digits_front some.0 ∙ (digits_more digit more some.1).0 in
    rw c.from_residual.ensures (still_large c.loop-digit.number digit (digits_front more) _ c.in_err-number.ensures.none (ap (value_with c.loop-digit.number) (sym front) ∙ c.loop-digit.invariant.value))
