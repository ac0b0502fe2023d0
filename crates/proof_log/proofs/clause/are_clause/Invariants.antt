use Rattle.std.proofs.Common.{length}
use Rattle.proof_log.proofs.Clauses.{StaysClause}
use Rattle.proof_log.proofs.clause.are_clause.Given as goal

abbrev pub invariant-loop-code : goal.invariant-loop-code
invariant-loop-code l = StaysClause l.codes l.rest

abbrev pub decreases-loop-code : goal.decreases-loop-code
decreases-loop-code l = length l.rest
