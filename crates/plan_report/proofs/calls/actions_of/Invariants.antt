use Rattle.std.proofs.Common.{◌≡◌, ◌++◌, drop}
use Rattle.step_plans.specs.Plans.{actions_in}
use Rattle.plan_report.proofs.calls.actions_of.Given as goal

abbrev pub invariant-loop-set : goal.invariant-loop-set
invariant-loop-set l = actions_in l.steps ≡ l.actions.items ++ actions_in (drop l.set-index l.steps)
