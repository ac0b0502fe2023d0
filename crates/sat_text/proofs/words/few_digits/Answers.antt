use Rattle.std.proofs.Common.{arith, refl}
use Rattle.sat_text.specs.Words.{value_of}
use Rattle.sat_text.proofs.Digits.{few_fit}
use Rattle.sat_text.proofs.words.few_digits.Goals as goal

pub loop-place-init : goal.loop-place-init
unfolding value_of
loop-place-init c = record { value = refl; small = omega arith; after = refl; long = omega arith }

pub overflow_mul-number : goal.overflow_mul-number
overflow_mul-number c =
    let few = few_fit c.loop-place.place c.min-most.result c.loop-place.number c.loop-place-test.true (omega (arith, c.min-most.ensures)) c.loop-place.invariant.small in
    omega (arith, few)

pub overflow_add-number : goal.overflow_add-number
overflow_add-number c =
    let few = few_fit c.loop-place.place c.min-most.result c.loop-place.number c.loop-place-test.true (omega (arith, c.min-most.ensures)) c.loop-place.invariant.small in
    omega (arith, few, c.from.ensures)
