use Rattle.std.proofs.Common.{◌≡◌, ◌++◌, drop}
use Rattle.std.specs.List.{filter}
use Rattle.formula_defs.specs.Layout.{action_at}
use Rattle.clause_base.specs.Formula.{assignment_of}
use Rattle.step_encoding.proofs.truth.add_true.Given as goal

abbrev pub invariant-loop-a : goal.invariant-loop-a
invariant-loop-a l =
    l.initial.into.items ++ filter (λ a. assignment_of l.values (action_at l.layout l.step a)) l.members
    ≡ l.into.items ++ filter (λ a. assignment_of l.values (action_at l.layout l.step a)) (drop l.a-index l.members)
