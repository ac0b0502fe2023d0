use Rattle.step_formula.proofs.WalkLaw.{preconditions_next}
use Rattle.step_formula.proofs.step_size.preconditions_size.Goals as goal

pub loop-act-preserved : goal.loop-act-preserved
loop-act-preserved c = preconditions_next c.args.task.now c.acts-act-items.ensures.lawful c.acts-act-items.result.now c.loop-act.act-index c.act-item.result c.act-item.result c.acts-act-items.ensures.acts c.loop-act-test.true c.act-item.is c.pre.result.now c.loop-act.size c.pre.ensures c.loop-act.invariant.0 c.loop-act.invariant.1
