use Rattle.std.proofs.Common.{[]}
use Rattle.layer_runs.proofs.never.put_task.Goals as goal

pub excluded_goal-requires-clause-initial : goal.excluded_goal-requires-clause-initial
excluded_goal-requires-clause-initial g c = c.in_ok-known.ensures.holds [] tt
