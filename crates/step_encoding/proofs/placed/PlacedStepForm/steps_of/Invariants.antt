use Rattle.std.proofs.Common.{◌≡◌, map}
use Rattle.std.specs.List.{filter}
use Rattle.gt_core.specs.Literal.{range}
use Rattle.formula_defs.specs.Layout.{action_at}
use Rattle.gt_core.specs.Published.{order_of}
use Rattle.clause_base.specs.Formula.{assignment_of}
use Rattle.step_encoding.proofs.placed.PlacedStepForm.steps_of.Given as goal

abbrev pub invariant-loop-t : goal.invariant-loop-t
invariant-loop-t g l = l.steps.items ≡ map (λ u. filter (λ a. assignment_of l.values (action_at l.layout u a)) (order_of l.self.components)) (range l.t)
