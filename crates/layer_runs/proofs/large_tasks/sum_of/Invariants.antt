use Rattle.std.proofs.Common.{◌<◌}
use Rattle.layer_runs.proofs.large_tasks.sum_of.Given as goal

abbrev pub invariant-loop-number : goal.invariant-loop-number
invariant-loop-number l = l.sum < 2147483648
