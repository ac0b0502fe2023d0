use Rattle.std.proofs.Common.{length}
use Rattle.proof_log.proofs.Digits.{HasRead}
use Rattle.proof_log.proofs.decimal.read_number.Given as goal

abbrev pub invariant-loop-digit : goal.invariant-loop-digit
invariant-loop-digit l = HasRead l.bytes l.number l.rest

abbrev pub decreases-loop-digit : goal.decreases-loop-digit
decreases-loop-digit l = length l.rest
