use Rattle.std.proofs.Common.{◌≡◌, ◌++◌, length}
use Rattle.proof_log.proofs.literals.codes_of.Given as goal

abbrev pub invariant-loop-code : goal.invariant-loop-code
invariant-loop-code l = l.codes.items ++ l.left ≡ l.numbers

abbrev pub decreases-loop-code : goal.decreases-loop-code
decreases-loop-code l = length l.left
