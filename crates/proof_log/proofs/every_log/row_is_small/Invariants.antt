use Rattle.std.proofs.Common.{length}
use Rattle.proof_log.specs.Text.{AreSmall}
use Rattle.proof_log.proofs.every_log.row_is_small.Given as goal

abbrev pub invariant-loop-number : goal.invariant-loop-number
invariant-loop-number l = AreSmall l.rest → AreSmall l.numbers

abbrev pub decreases-loop-number : goal.decreases-loop-number
decreases-loop-number l = length l.rest
