use Rattle.std.proofs.Common.{length}
use Rattle.proof_log.proofs.Spelling.{IsParsed}
use Rattle.proof_log.proofs.read.read_proof.Given as goal

abbrev pub invariant-loop-rest : goal.invariant-loop-rest
invariant-loop-rest l = IsParsed l.bytes l.horizon l.entries l.rest

abbrev pub decreases-loop-rest : goal.decreases-loop-rest
decreases-loop-rest l = length l.rest
