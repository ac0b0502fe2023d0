use Rattle.std.proofs.Common.{◌≤◌, refl, rules}
use Rattle.proof_log.proofs.Cuts.{none_there, one_more}
use Rattle.proof_log.proofs.decimals.read_numbers.Goals as goal

pub returns-in_default-read_number-clause-none : goal.returns-in_default-read_number-clause-none
returns-in_default-read_number-clause-none c = λ none.
    none_there c.args.bytes.now c.loop-digits.numbers.items c.loop-digits.rest.now c.in-Some.digits.now c.loop-digits.invariant c.in-Some.ensures.some.0 c.in-Some.ensures.some.1
    (c.in_default-read_number.ensures.none refl)

pub loop-digits-preserved : goal.loop-digits-preserved
loop-digits-preserved c =
    let read = c.in-Some-read_number.ensures.some in
    let bound : c.in-Some-read_number.number ≤ 4294967295 = search rules in
    let more = one_more c.args.bytes.now c.loop-digits.numbers.items c.loop-digits.rest.now c.in-Some.digits.now c.in-Some-read_number.others.now c.in-Some-read_number.number c.loop-digits.invariant c.in-Some.ensures.some.0 read.0 read.1 bound in
    rw c.in_ok-push.ensures.items more
