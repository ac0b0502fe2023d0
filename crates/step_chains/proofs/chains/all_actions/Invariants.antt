use Rattle.std.proofs.Common.{◌≡◌, ◌++◌, drop}
use Rattle.gt_core.specs.Published.{order_of}
use Rattle.step_chains.proofs.chains.all_actions.Given as goal

abbrev pub invariant-loop-group : goal.invariant-loop-group
invariant-loop-group l = order_of l.order ≡ l.actions.items ++ order_of (drop l.group-index l.order)
