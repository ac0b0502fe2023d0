use Rattle.std.proofs.Common.{◌≡◌, ◌≤◌, drop, length}
use Rattle.goal_choice.specs.own.Search.{least_variable}
use Rattle.goal_choice.proofs.search.least_of_all.Given as goal

abbrev pub invariant-scanning : goal.invariant-scanning
invariant-scanning l = (l.i ≤ length l.variables) × (l.least ≡ least_variable l.values l.value l.start (drop l.i l.variables))

abbrev pub decreases-scanning : goal.decreases-scanning
decreases-scanning l = l.i
