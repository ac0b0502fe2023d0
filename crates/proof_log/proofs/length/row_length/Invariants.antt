use Rattle.std.proofs.Common.{◌≡◌, ◌≤◌, ◌+◌, [], length}
use Rattle.proof_log.specs.own.Length.{saturated}
use Rattle.proof_log.specs.own.Reading.{numbered}
use Rattle.proof_log.proofs.length.row_length.Given as goal

abbrev pub invariant-loop-number : goal.invariant-loop-number
invariant-loop-number l = record {
  total : saturated (l.sum + length (numbered l.rest [])) ≡ saturated (length (numbered l.numbers []));
  small : l.sum ≤ 18446744073709551615;
}

abbrev pub decreases-loop-number : goal.decreases-loop-number
decreases-loop-number l = length l.rest
