use Rattle.std.proofs.Common.{arith, ◌-◌, ◌+◌}
use Rattle.proof_log.proofs.NumbersLaws.{read_next}
use Rattle.proof_log.proofs.literals.decode.Goals as goal

pub loop-preserved : goal.loop-preserved
loop-preserved c =
    read_next _ c.loop.into.items _ c.loop.rest.now _ _ c.loop.last c.take_step-next.result.number (c.args.count - c.loop.counter) (c.args.count - (c.loop.counter + 1)) _ _ (omega arith) c.push_reserved.ensures.items
    c.take_step-next.ensures.number c.take_step-next.ensures.rest c.push_reserved.ensures.capacity c.loop.invariant
