use Rattle.std.proofs.Common.{length}
use Rattle.proof_log.proofs.Cuts.{IsReading}
use Rattle.proof_log.proofs.decimals.read_numbers.Given as goal

abbrev pub invariant-loop-digits : goal.invariant-loop-digits
invariant-loop-digits l = IsReading l.bytes l.numbers.items l.rest

abbrev pub decreases-loop-digits : goal.decreases-loop-digits
decreases-loop-digits l = length l.rest
