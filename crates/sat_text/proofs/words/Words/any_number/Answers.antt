use Rattle.std.proofs.Common.{◌∙◌, ◌<◌, ℕ, List, true, false, drop, length, option_map, sym, ap, subst}
use Rattle.std.specs.Prelude.{option_and_then}
use Rattle.sat_text.specs.declared.words.Signed.{Signed}
use Rattle.sat_text.specs.Words.{words_of, first_number, negative}
use Rattle.sat_text.proofs.WordsLaws.{plain_number, plain_after, minus_number, minus_after, negative_some, fewer_words, words_after_blanks}
use Rattle.sat_text.proofs.words.Words.any_number.Goals as goal

abbrev plain : ℕ → Signed
plain n = record { minus = false; number = n }

abbrev minus : ℕ → Signed
minus n = record { minus = true; number = n }

pub returns-in_err-number-in-None-clause-number : goal.returns-in_err-number-in-None-clause-number
returns-in_err-number-in-None-clause-number c =
    let is = plain_number c.self.inside.rest.now c.after_blanks-word.result.now c.after_blanks-word.ensures c.in-None.ensures.none ∙ ap (option_map plain) c.in_err-number-in-None.ensures.none in
    c.from_residual.ensures ∙ sym (ap first_number (sym c.self.view_is) ∙ is)

pub returns-in_err-number-in-Some-clause-number : goal.returns-in_err-number-in-Some-clause-number
returns-in_err-number-in-Some-clause-number c =
    let at = sym c.after_blanks-word.ensures ∙ c.in-Some.ensures.some in
    let is = minus_number c.self.inside.rest.now c.in-Some.digits.now at ∙ ap (option_and_then negative) c.in_err-number-in-Some.ensures.none in
    c.from_residual-in_err-number-in-Some.ensures ∙ sym (ap first_number (sym c.self.view_is) ∙ is)

pub returns-then-number-eq0-clause-number : goal.returns-then-number-eq0-clause-number
returns-then-number-eq0-clause-number c =
    let at = sym c.after_blanks-word.ensures ∙ c.in-Some.ensures.some in
    let is = minus_number c.self.inside.rest.now c.in-Some.digits.now at ∙ ap (option_and_then negative) c.in_ok-number-in-Some.ensures.some.0 ∙ ap negative c.if-number-eq0.true in
    sym (ap first_number (sym c.self.view_is) ∙ is)

pub returns-in_ok-number-in-None-clause-number : goal.returns-in_ok-number-in-None-clause-number
returns-in_ok-number-in-None-clause-number c =
    let is = plain_number c.self.inside.rest.now c.after_blanks-word.result.now c.after_blanks-word.ensures c.in-None.ensures.none ∙ ap (option_map plain) c.in_ok-number-in-None.ensures.some.0 in
    sym (ap first_number (sym c.self.view_is) ∙ is)

pub returns-in_ok-number-in-None-clause-passed : goal.returns-in_ok-number-in-None-clause-passed
returns-in_ok-number-in-None-clause-passed c =
    let read = c.in_ok-number-in-None.ensures.some in
    ap words_of c.after_blanks-left.ensures ∙ words_after_blanks c.in_ok-number-in-None.rest.now ∙ ap words_of read.1 ∙ plain_after c.self.inside.rest.now c.after_blanks-word.result.now c.in_ok-number-in-None.number c.after_blanks-word.ensures read.0 ∙ ap (drop 1) c.self.view_is

pub returns-in_ok-number-in-None-clause-fewer : goal.returns-in_ok-number-in-None-clause-fewer
returns-in_ok-number-in-None-clause-fewer c =
    let passed = returns-in_ok-number-in-None-clause-passed c in
    let number = returns-in_ok-number-in-None-clause-number c in
    subst (λ (words : List (List ℕ)). length words < length c.args.self.now) (sym passed) (fewer_words c.args.self.now (plain c.in_ok-number-in-None.number) number)

pub returns-else-number-eq0-clause-number : goal.returns-else-number-eq0-clause-number
returns-else-number-eq0-clause-number c =
    let at = sym c.after_blanks-word.ensures ∙ c.in-Some.ensures.some in
    let is = minus_number c.self.inside.rest.now c.in-Some.digits.now at ∙ ap (option_and_then negative) c.in_ok-number-in-Some.ensures.some.0 ∙ negative_some c.in_ok-number-in-Some.number c.if-number-eq0.false in
    sym (ap first_number (sym c.self.view_is) ∙ is)

pub returns-else-number-eq0-clause-passed : goal.returns-else-number-eq0-clause-passed
returns-else-number-eq0-clause-passed c =
    let at = sym c.after_blanks-word.ensures ∙ c.in-Some.ensures.some in
    ap words_of c.after_blanks-others.ensures ∙ words_after_blanks c.in_ok-number-in-Some.rest.now ∙ ap words_of c.in_ok-number-in-Some.ensures.some.1 ∙ minus_after c.self.inside.rest.now c.in-Some.digits.now at ∙ ap (drop 1) c.self.view_is

pub returns-else-number-eq0-clause-fewer : goal.returns-else-number-eq0-clause-fewer
returns-else-number-eq0-clause-fewer c =
    let passed = returns-else-number-eq0-clause-passed c in
    let number = returns-else-number-eq0-clause-number c in
    subst (λ (words : List (List ℕ)). length words < length c.args.self.now) (sym passed) (fewer_words c.args.self.now (minus c.in_ok-number-in-Some.number) number)
