use Rattle.std.proofs.Common.{◌<◌}
use Rattle.layer_runs.proofs.large_tasks.sum_of_clause.Given as goal

abbrev pub invariant-loop-place : goal.invariant-loop-place
invariant-loop-place l = l.total < 2147483648
