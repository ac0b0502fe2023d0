use Rattle.std.proofs.Common.{arith, add-one}
use Rattle.race.proofs.Packed.{conflicts-take}
use Rattle.race.proofs.work.conflicts_of.Goals as goal

pub loop-run-preserved : goal.loop-run-preserved
loop-run-preserved c =
    let more = conflicts-take c.args.runs.now c.loop-run.run-index c.run-item.result c.loop-run-test.true c.run-item.is in
    (rw add-one (omega (arith, more, c.loop-run.invariant.0, c.conflicts-sum.ensures.value)), omega (arith, c.loop-run.invariant.1, c.conflicts-sum.ensures.few))
