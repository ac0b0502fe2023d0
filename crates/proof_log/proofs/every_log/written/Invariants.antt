use Rattle.std.proofs.Common.{length}
use Rattle.proof_log.specs.Text.{AreWritten}
use Rattle.proof_log.proofs.every_log.written.Given as goal

abbrev pub invariant-loop-step : goal.invariant-loop-step
invariant-loop-step l = AreWritten l.reader → AreWritten l.log

abbrev pub decreases-loop-step : goal.decreases-loop-step
decreases-loop-step l = length l.reader
