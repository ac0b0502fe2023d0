use Rattle.std.proofs.Common.{◌≡◌, ◌++◌, drop}
use Rattle.std.specs.List.{filter}
use Rattle.formula_defs.specs.Layout.{action_at}
use Rattle.gt_core.specs.Published.{order_of}
use Rattle.clause_base.specs.Formula.{assignment_of}
use Rattle.step_encoding.proofs.truth.true_actions.Given as goal

abbrev pub invariant-loop-group : goal.invariant-loop-group
invariant-loop-group l =
    filter (λ a. assignment_of l.values (action_at l.layout l.step a)) (order_of l.order)
    ≡ l.actions.items ++ filter (λ a. assignment_of l.values (action_at l.layout l.step a)) (order_of (drop l.group-index l.order))
