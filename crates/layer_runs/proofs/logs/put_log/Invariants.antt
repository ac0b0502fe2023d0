use Rattle.std.proofs.Common.{length}
use Rattle.layer_runs.proofs.logs.put_log.Given as goal

abbrev pub decreases-loop-step : goal.decreases-loop-step
decreases-loop-step l = length l.reader
