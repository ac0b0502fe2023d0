use Rattle.std.proofs.Common.{◌≡◌, ◌++◌, drop}
use Rattle.gt_core.specs.Published.{order_of}
use Rattle.action_order.proofs.publish.flatten.Given as goal

abbrev pub invariant-loop-component : goal.invariant-loop-component
invariant-loop-component l = order_of l.components ≡ l.order.items ++ order_of (drop l.component-index l.components)
