use Rattle.std.proofs.Common.{◌≡◌, ◌≤◌, ◌+◌, [], length}
use Rattle.proof_log.specs.own.Length.{saturated}
use Rattle.proof_log.proofs.Spelling.{entries_then, first_then}
use Rattle.proof_log.proofs.length.proof_length.Given as goal

abbrev pub invariant-loop-step : goal.invariant-loop-step
invariant-loop-step l = record {
  total : saturated (l.sum + length (entries_then l.reader [])) ≡ saturated (length (first_then l.horizon (entries_then l.log [])));
  small : l.sum ≤ 18446744073709551615;
}

abbrev pub decreases-loop-step : goal.decreases-loop-step
decreases-loop-step l = length l.reader
