use Rattle.std.proofs.Common.{◌≡◌, ◌++◌, ◌+◌, ◌≤◌, length}
use Rattle.std.specs.Prelude.{vec_capacity}
use Rattle.proof_log.specs.own.Number.{bytes_of}
use Rattle.proof_log.proofs.number.put_within.Given as goal

-- what is written and what is left are the whole, and there is room for what is left
abbrev pub invariant-loop-rest : goal.invariant-loop-rest
invariant-loop-rest l = record {
  told : l.bytes.items ++ bytes_of l.rest ≡ l.initial.bytes.items ++ bytes_of l.number;
  room : length l.bytes.items + length (bytes_of l.rest) ≤ vec_capacity l.bytes;
  capacity : vec_capacity l.bytes ≡ vec_capacity l.initial.bytes;
}

abbrev pub decreases-loop-rest : goal.decreases-loop-rest
decreases-loop-rest l = l.rest
