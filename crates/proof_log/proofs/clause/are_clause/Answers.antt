use Rattle.std.proofs.Common.{refl}
use Rattle.proof_log.proofs.Clauses.{stays_next}
use Rattle.proof_log.proofs.clause.are_clause.Goals as goal

pub loop-code-preserved : goal.loop-code-preserved
loop-code-preserved c =
    stays_next c.args.codes.now c.loop-code.rest.now c.in-Some.code.now c.in-Some.others.now c.loop-code.invariant c.in-Some.ensures.cases.0 (c.if-not-goes_before.ensures.yes refl)
