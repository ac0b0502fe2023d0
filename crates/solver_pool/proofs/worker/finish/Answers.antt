use Rattle.solver_pool.proofs.Handed.{stays_on}
use Rattle.solver_pool.proofs.worker.finish.Goals as goal

pub loop-preserved : goal.loop-preserved
loop-preserved g c =
    let falls = c.turn.ensures.falls c.loop-test.true c.loop.invariant.alone in
    record { pass = c.turn.ensures.pass; alone = falls.0; work = stays_on g.R.Resume _ _ _ c.loop.invariant.work c.turn.ensures.work }

pub loop-smaller : goal.loop-smaller
loop-smaller g c = (c.turn.ensures.falls c.loop-test.true c.loop.invariant.alone).1

pub returns-clause-work : goal.returns-clause-work
returns-clause-work g c = stays_on g.R.Resume _ _ _ c.loop.invariant.work c.turn.ensures.work
