use Rattle.std.proofs.Common.{◌≡◌, ◌++◌, [], length}
use Rattle.proof_log.specs.own.Reading.{numbered}
use Rattle.proof_log.proofs.write.push_row.Given as goal

abbrev pub invariant-loop-number : goal.invariant-loop-number
invariant-loop-number l = l.text.items ++ numbered l.rest [] ≡ l.initial.text.items ++ numbered l.numbers []

abbrev pub decreases-loop-number : goal.decreases-loop-number
decreases-loop-number l = length l.rest
