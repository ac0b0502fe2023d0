use Rattle.std.proofs.Common.{◌∙◌, ap, length}
use Rattle.gt_core.proofs.published.Within.{lawful}
use Rattle.state_search.proofs.least.least.Goals as goal

pub is_goal-requires : goal.is_goal-requires
is_goal-requires c = ap length c.init.ensures ∙ (lawful c.args.task.now c.facts-facts.ensures.lawful).initial
