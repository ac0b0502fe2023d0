use Rattle.std.proofs.Common.{◌≤◌, arith, rules}
use Rattle.proof_log.proofs.Lengths.{digits_few, one_digit, one_digit_more}
use Rattle.proof_log.proofs.length.digits.Goals as goal

pub overflow_add-count : goal.overflow_add-count
overflow_add-count c =
    let small : c.args.number ≤ 4294967295 = search rules in
    let inv = c.loop-rest.invariant in
    record { fits = omega (arith, inv.0, digits_few c.args.number small) }

pub loop-rest-preserved : goal.loop-rest-preserved
loop-rest-preserved c =
    let small : c.args.number ≤ 4294967295 = search rules in
    let inv = c.loop-rest.invariant in
    let more = one_digit_more c.loop-rest.rest c.loop-rest-test.true (omega (arith, inv.1, small)) in
    (omega (arith, inv.0, more), omega (arith, inv.1))

pub returns-clause-value : goal.returns-clause-value
returns-clause-value c =
    let inv = c.loop-rest.invariant in
    let one = one_digit c.loop-rest.rest (omega (arith, c.loop-rest-test.false)) in
    omega (arith, inv.0, one)

pub returns-clause-few : goal.returns-clause-few
returns-clause-few c =
    let small : c.args.number ≤ 4294967295 = search rules in
    let inv = c.loop-rest.invariant in
    let one = one_digit c.loop-rest.rest (omega (arith, c.loop-rest-test.false)) in
    omega (arith, inv.0, one, digits_few c.args.number small)
