use Rattle.std.proofs.Common.{◌≡◌, ◌∙◌, sym, ap, true, false}
use Rattle.sat_text.specs.own.Cut.{word_front, after_digits, ends_word}
use Rattle.sat_text.proofs.WordsLaws.{natural_front, natural_none, front_is_digits, front_not_digits, not_natural}
use Rattle.sat_text.proofs.words.natural_of.Goals as goal

pub returns-in_err-number-clause-none : goal.returns-in_err-number-clause-none
returns-in_err-number-clause-none c = rw c.from_residual.ensures (natural_none c.args.text.now c.in_err-number.ensures.none)

pub returns-then-ends_word-clause-some : goal.returns-then-ends_word-clause-some
returns-then-ends_word-clause-some c =
    let read = c.in_ok-number.ensures.some in
    let ends : ends_word (after_digits c.args.text.now) ≡ true = ap ends_word (sym read.1) ∙ (sym c.ends_word.ensures ∙ c.if-ends_word.true) in
    (natural_front c.args.text.now c.in_ok-number.number ends read.0, read.1 ∙ sym (front_is_digits c.args.text.now ends).1)

pub returns-else-ends_word-clause-none : goal.returns-else-ends_word-clause-none
returns-else-ends_word-clause-none c =
    let goes_on : ends_word (after_digits c.args.text.now) ≡ false = ap ends_word (sym c.in_ok-number.ensures.some.1) ∙ (sym c.ends_word.ensures ∙ c.if-ends_word.false) in
    not_natural (word_front c.args.text.now) (front_not_digits c.args.text.now goes_on)
