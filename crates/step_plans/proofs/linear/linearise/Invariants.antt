use Rattle.std.proofs.Common.{◌≡◌, ◌++◌, drop}
use Rattle.gt_core.specs.Published.{order_of}
use Rattle.step_plans.specs.Plans.{in_order}
use Rattle.step_plans.proofs.linear.linearise.Given as goal

abbrev pub invariant-loop-set : goal.invariant-loop-set
invariant-loop-set l = in_order (order_of l.order) l.steps ≡ l.actions.items ++ in_order (order_of l.order) (drop l.set-index l.steps)
