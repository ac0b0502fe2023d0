use Rattle.std.proofs.Common.{[], not, count_by}
use Rattle.action_order.specs.own.SortingOf.{IsSortingOf}
use Rattle.action_order.proofs.sort.sort_components.Given as goal

abbrev pub invariant-loop-sort : goal.invariant-loop-sort
invariant-loop-sort l = IsSortingOf l.rows l.names l.numbers l.sort []

abbrev pub decreases-loop-sort : goal.decreases-loop-sort
decreases-loop-sort l = count_by not l.sort.taken.items
