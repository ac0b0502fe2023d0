use Rattle.std.proofs.Common.{◌≡◌, ◌++◌, [], length}
use Rattle.proof_log.proofs.Spelling.{entries_then, first_then}
use Rattle.proof_log.proofs.write.write_proof.Given as goal

abbrev pub invariant-loop-step : goal.invariant-loop-step
invariant-loop-step l = l.text.items ++ entries_then l.reader [] ≡ first_then l.horizon (entries_then l.log [])

abbrev pub decreases-loop-step : goal.decreases-loop-step
decreases-loop-step l = length l.reader
