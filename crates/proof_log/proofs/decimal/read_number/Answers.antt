use Rattle.std.proofs.Common.{◌≡◌, ◌+◌, ◌<◌, length, get_or, arith, refl}
use Rattle.proof_log.proofs.Digits.{is_read, none_read, one_more_read, too_large, zero_leads}
use Rattle.proof_log.proofs.decimal.read_number.Goals.{else-digits-gt1-via-then-digits-gt1+else-bytes-eq48, else-digits-gt1-via-else-digits-gt1}
use Rattle.proof_log.proofs.decimal.read_number.Goals as goal

pub returns-in_err-number-clause-none : goal.returns-in_err-number-clause-none
returns-in_err-number-clause-none c = λ none.
    too_large c.args.bytes.now c.loop-digit.number c.loop-digit.rest.now c.in-Some.digit c.in-Some.others.now c.loop-digit.invariant c.in-Some.ensures.some.0 c.in-Some.ensures.some.1
    (c.in_err-number.ensures.none refl)

pub loop-digit-preserved : goal.loop-digit-preserved
loop-digit-preserved c =
    one_more_read c.args.bytes.now c.loop-digit.number c.loop-digit.rest.now c.in-Some.digit c.in-Some.others.now c.in_ok-number.number c.loop-digit.invariant c.in-Some.ensures.some.0 c.in-Some.ensures.some.1
    c.in_ok-number.ensures.some.0 c.in_ok-number.ensures.some.1

pub returns-then-digits-eq0-clause-none : goal.returns-then-digits-eq0-clause-none
returns-then-digits-eq0-clause-none c = λ none. none_read c.args.bytes.now c.loop-digit.number c.loop-digit.rest.now c.loop-digit.invariant (c.in_default.ensures.none refl) c.if-digits-eq0.true

pub returns-then-bytes-eq48-clause-none : goal.returns-then-bytes-eq48-clause-none
returns-then-bytes-eq48-clause-none c = λ none.
    zero_leads c.args.bytes.now c.loop-digit.number c.loop-digit.rest.now c.loop-digit.invariant (c.in_default.ensures.none refl) (omega (arith, c.if-digits-gt1.true)) c.if-bytes-eq48.true

pub returns-clause-some : goal.returns-clause-some
returns-clause-some c =
    let no_zero : length c.loop-digit.rest.now + 1 < length c.args.bytes.now → get_or c.args.bytes.now 0 0 ≡ 48 → ⊥ = λ long leads. elim c.else-digits-gt1.branch [
      | else-digits-gt1-via-then-digits-gt1+else-bytes-eq48 w ↦ w.if-bytes-eq48.false leads
      | else-digits-gt1-via-else-digits-gt1 w ↦ omega (arith, w.if-digits-gt1.false, long)
    ] in
    (is_read c.args.bytes.now c.loop-digit.number c.loop-digit.rest.now c.loop-digit.invariant c.if-digits-eq0.false no_zero, c.in_default.ensures.none refl)
