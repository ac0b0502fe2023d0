use Rattle.std.proofs.Common.{◌∙◌, ℕ, List, length, drop, sym, ap}
use Rattle.sat_text.specs.Words.{value_with}
use Rattle.sat_text.specs.own.Cut.{digits_front, after_digits}
use Rattle.sat_text.proofs.Digits.{large_after, leading, natural_after, no_digit, none_after}
use Rattle.sat_text.proofs.words.digits_of.Goals as goal

pub returns-then-count-eq0-clause-none : goal.returns-then-count-eq0-clause-none
returns-then-count-eq0-clause-none c =
    let few = c.few_digits-number.ensures in
    no_digit c.args.bytes.now c.few_digits-number.result.1 _ few.long (λ small. ap (λ (ds : List ℕ). length ds) (few.ended small)) c.if-count-eq0.true

pub returns-then-has_leading_zero-clause-none : goal.returns-then-has_leading_zero-clause-none
returns-then-has_leading_zero-clause-none c =
    let yes = c.has_leading_zero.ensures.yes c.if-has_leading_zero.true in
    leading c.args.bytes.now c.few_digits-number.result.1 _ c.few_digits-number.ensures.long yes.0 yes.1

pub returns-then-count-lt-FEW-clause-some : goal.returns-then-count-lt-FEW-clause-some
returns-then-count-lt-FEW-clause-some c =
    let few = c.few_digits-number.ensures in
    let number = c.few_digits-number.result.0 in
    let none = few.ended c.if-count-lt-FEW.true in
    let value = sym (ap (value_with number) none) ∙ few.value in
    let last = c.split_at.ensures.back ∙ (sym (none_after (drop c.few_digits-number.result.1 c.args.bytes.now) none) ∙ few.after) in (
      natural_after c.args.bytes.now c.few_digits-number.result.1 _ number few.long (λ small. ap (λ (ds : List ℕ). length ds) (few.ended small)) c.if-count-eq0.false
          (c.has_leading_zero.ensures.no c.if-has_leading_zero.false) value few.small,
      last,
    )

pub returns-in_err-whole-clause-none : goal.returns-in_err-whole-clause-none
returns-in_err-whole-clause-none c =
    let few = c.few_digits-number.ensures in
    let value = ap (λ (t : List ℕ). value_with c.few_digits-number.result.0 (digits_front t)) c.split_at.ensures.back ∙ few.value in
    rw c.from_residual.ensures (large_after c.args.bytes.now _ value c.in_err-whole.ensures.none)

pub returns-clause-some : goal.returns-clause-some
returns-clause-some c =
    let few = c.few_digits-number.ensures in
    let read = c.in_ok-whole.ensures.some in
    let value = read.0 ∙ (ap (λ (t : List ℕ). value_with c.few_digits-number.result.0 (digits_front t)) c.split_at.ensures.back ∙ few.value) in (
      natural_after c.args.bytes.now c.few_digits-number.result.1 _ c.in_ok-whole.whole few.long (λ small. ap (λ (ds : List ℕ). length ds) (few.ended small)) c.if-count-eq0.false
          (c.has_leading_zero.ensures.no c.if-has_leading_zero.false) value c.in_ok-whole.ensures.small,
      read.1 ∙ (ap after_digits c.split_at.ensures.back ∙ few.after),
    )
