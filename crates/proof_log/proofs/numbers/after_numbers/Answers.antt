use Rattle.std.proofs.Common.{arith, ◌-◌, ◌+◌}
use Rattle.proof_log.proofs.NumbersLaws.{after_next}
use Rattle.proof_log.proofs.numbers.after_numbers.Goals as goal

pub loop-preserved : goal.loop-preserved
loop-preserved c = after_next _ c.loop.rest.now _ (c.args.count - c.loop.counter) (c.args.count - (c.loop.counter + 1)) (omega arith) c.take_number.ensures.rest c.loop.invariant
