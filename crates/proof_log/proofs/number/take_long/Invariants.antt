use Rattle.std.proofs.Common.{◌≡◌, ◌+◌, ◌*◌, ◌%◌, ◌^◌, length}
use Rattle.proof_log.specs.own.Number.{number_of, after_number}
use Rattle.proof_log.proofs.number.take_long.Given as goal

abbrev pub invariant-loop-byte : goal.invariant-loop-byte
invariant-loop-byte l = record {
  number : (l.number + l.weight * number_of l.rest) % 2 ^ 64 ≡ number_of l.bytes;
  rest : after_number l.rest ≡ after_number l.bytes;
}

abbrev pub decreases-loop-byte : goal.decreases-loop-byte
decreases-loop-byte l = length l.rest
