use Rattle.step_formula.proofs.WalkLaw.{count_next}
use Rattle.step_formula.proofs.step_size.effect_count.Goals as goal

pub loop-act-preserved : goal.loop-act-preserved
loop-act-preserved c = count_next c.args.task.now c.acts-act-items.ensures.lawful c.acts-act-items.result.now c.loop-act.act-index c.act-item.result c.act-item.result c.acts-act-items.ensures.acts c.loop-act-test.true c.act-item.is c.effects.result.now c.loop-act.count c.effects.ensures c.loop-act.invariant.0 c.loop-act.invariant.1
