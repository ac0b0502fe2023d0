use Rattle.std.proofs.Common.{◌≡◌, ◌++◌, drop}
use Rattle.std.specs.List.{filter}
use Rattle.gt_core.specs.Literal.{is_in}
use Rattle.gt_core.specs.Published.{order_of}
use Rattle.step_plans.proofs.linear.push_members.Given as goal

abbrev pub invariant-loop-place : goal.invariant-loop-place
invariant-loop-place l =
    l.initial.actions.items ++ filter (is_in l.set) (order_of l.order)
    ≡ l.actions.items ++ filter (is_in l.set) (drop l.place (order_of l.order))
