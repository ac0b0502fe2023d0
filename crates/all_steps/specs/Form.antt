-- The law by which the encoding of all-steps is a form, as its `impl` cites it.
use Rattle.gt_core.specs.AllStep.{IsAllStepPlan}
use Rattle.step_laws.specs.Stepping.{IsStepping}
use Rattle.step_chains.specs.BothWays.{all_places}
use Rattle.step_laws.proofs.published.AllWriting.{all_steps}

-- the law that chains over all actions, in both directions, give all-steps
pub by_both_ways : IsStepping all_places IsAllStepPlan
by_both_ways = all_steps
