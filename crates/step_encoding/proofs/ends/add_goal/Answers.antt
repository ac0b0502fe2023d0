use Rattle.step_encoding.proofs.Parts.{goal_in_range}
use Rattle.step_encoding.proofs.ends.add_goal.Goals as goal

pub fact_lit-fact-requires-clause-fact : goal.fact_lit-fact-requires-clause-fact
fact_lit-fact-requires-clause-fact c =
    goal_in_range c.args.task.now c.facts-facts.ensures.lawful c.goal-lit-items.result.now c.loop-lit.lit-index c.args.layout.now.facts c.goal-lit-items.ensures c.requires.facts c.loop-lit-test.true
