use Rattle.std.proofs.Common.{length}
use Rattle.layer_runs.proofs.logs.put_numbers.Given as goal

abbrev pub decreases-loop-number : goal.decreases-loop-number
decreases-loop-number l = length l.left
