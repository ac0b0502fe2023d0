use Rattle.std.proofs.Common.{◌<◌, ◌-◌, length, refl, sym, subst, arith}
use Rattle.proof_log.proofs.Spelling.{all_parsed, empty_by, entry_longer, left_over, not_empty_by, one_entry_more, parsed_first, unfit_here}
use Rattle.proof_log.proofs.read.read_proof.Goals as goal

pub loop-rest-init : goal.loop-rest-init
loop-rest-init c =
    rw c.new-entries.ensures (parsed_first c.args.bytes.now c.in-Some.horizon c.in-Some.first.now c.in-Some.ensures.some.0 c.in-Some.ensures.some.1)

pub overflow_sub-at : goal.overflow_sub-at
overflow_sub-at c =
    let left = left_over c.args.bytes.now c.in-Some.horizon c.loop-rest.entries c.loop-rest.rest.now c.loop-rest.invariant in
    omega (arith, left)

pub returns-in_default-2-clause-syntax : goal.returns-in_default-2-clause-syntax
returns-in_default-2-clause-syntax c =
    let some = not_empty_by c.loop-rest.rest.now c.is_empty.result c.is_empty.ensures c.loop-rest-test.true in
    unfit_here c.args.bytes.now c.in-Some.horizon c.loop-rest.entries c.loop-rest.rest.now (length c.args.bytes.now - length c.loop-rest.rest.now) c.loop-rest.invariant some
    (c.in_ok-others.ensures.none c.in_default-2.is) refl

pub loop-rest-smaller : goal.loop-rest-smaller
loop-rest-smaller c =
    let adds = rw c.in-Some-2.is at c.in_ok-others.ensures.some in
    let longer = entry_longer adds.entry c.in-Some-2.others.now in
    subst (λ bytes. length c.in-Some-2.others.now < length bytes) (sym adds.text) longer

pub loop-rest-preserved : goal.loop-rest-preserved
loop-rest-preserved c =
    let adds = rw c.in-Some-2.is at c.in_ok-others.ensures.some in
    one_entry_more c.args.bytes.now c.in-Some.horizon c.loop-rest.entries c.read_entry.new.entries c.loop-rest.rest.now c.in-Some-2.others.now adds.entry c.loop-rest.invariant adds.written adds.added adds.text

pub returns-clause-value : goal.returns-clause-value
returns-clause-value c =
    let none = empty_by c.loop-rest.rest.now c.is_empty.result c.is_empty.ensures c.loop-rest-test.false in
    all_parsed c.args.bytes.now c.in-Some.horizon c.loop-rest.entries c.loop-rest.rest.now c.loop-rest.invariant none

pub returns-clause-few : goal.returns-clause-few
returns-clause-few c =
    let left = left_over c.args.bytes.now c.in-Some.horizon c.loop-rest.entries c.loop-rest.rest.now c.loop-rest.invariant in
    omega (arith, left)
