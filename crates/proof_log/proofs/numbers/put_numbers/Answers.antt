use Rattle.std.proofs.Common.{arith, get_or, refl}
use Rattle.proof_log.proofs.NumbersLaws.{put_next}
use Rattle.proof_log.proofs.numbers.put_numbers.Goals as goal

pub put_step_within-requires : goal.put_step_within-requires
put_step_within-requires c = omega (arith, c.loop-number.invariant.room, c.loop-number-test.true)

pub loop-number-preserved : goal.loop-number-preserved
loop-number-preserved c =
    let i = c.loop-number.number-index in
    let put = c.put_step_within.ensures in
    put_next _ c.loop-number.bytes.items c.put_step_within.new.bytes.items c.args.numbers.now i c.loop-number.last (get_or c.args.numbers.now i 0) _ _ c.loop-number-test.true refl
    (c.type_inv.numbers i).fits put.put put.few put.capacity c.loop-number.invariant
