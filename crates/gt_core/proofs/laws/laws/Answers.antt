use Rattle.gt_core.proofs.published.RunLaw.{runs_in_order}
use Rattle.gt_core.proofs.published.EachOrder.{itself, each_order}
use Rattle.gt_core.proofs.published.StepLaw.{step_of_one, step_of_none}
use Rattle.gt_core.proofs.published.PublishedLaw.{published_keeps_apart}
use Rattle.gt_core.proofs.published.UniqueLaw.{published_same, each_once}
use Rattle.gt_core.proofs.published.SequenceLaw.{plan_runs}
use Rattle.gt_core.proofs.laws.laws.Goals as goal

pub returns-clause-runs_in_order : goal.returns-clause-runs_in_order
returns-clause-runs_in_order c = runs_in_order

pub returns-clause-never_itself : goal.returns-clause-never_itself
returns-clause-never_itself c = itself

pub returns-clause-each_order : goal.returns-clause-each_order
returns-clause-each_order c = each_order

pub returns-clause-one_action : goal.returns-clause-one_action
returns-clause-one_action c = step_of_one

pub returns-clause-empty_set : goal.returns-clause-empty_set
returns-clause-empty_set c = step_of_none

pub returns-clause-keeps_apart : goal.returns-clause-keeps_apart
returns-clause-keeps_apart c = published_keeps_apart

pub returns-clause-unique : goal.returns-clause-unique
returns-clause-unique c = published_same

pub returns-clause-each_once : goal.returns-clause-each_once
returns-clause-each_once c = each_once

pub returns-clause-plan_runs : goal.returns-clause-plan_runs
returns-clause-plan_runs c = plan_runs
