use Rattle.std.proofs.Common.{arith}
use Rattle.state_search.proofs.LeastLaw.{none_at_all}
use Rattle.state_search.proofs.sweep.sweep_all.Goals as goal

pub returns-clause-ends : goal.returns-clause-ends
returns-clause-ends c =
    none_at_all c.args.task.now c.loop-number.store c.loop-number.number c.facts-facts.ensures.lawful c.laws.ensures.closed_list c.loop-number.invariant.closing (omega (arith, c.loop-number-test.false, c.len.ensures.len))
