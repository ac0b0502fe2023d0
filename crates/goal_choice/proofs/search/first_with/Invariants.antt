use Rattle.std.proofs.Common.{◌≡◌, drop}
use Rattle.goal_choice.specs.own.Search.{least_variable}
use Rattle.goal_choice.proofs.search.first_with.Given as goal

abbrev pub invariant-loop-variable : goal.invariant-loop-variable
invariant-loop-variable l = least_variable l.values l.value l.start (drop l.variable-index l.variables) ≡ least_variable l.values l.value l.start l.variables
