use Rattle.std.proofs.Common.{subst}
use Rattle.gt_core.specs.Clauses.{KnownClauses}
use Rattle.never_check.specs.BackwardVerdicts.{IsBackwardVerdict}
use Rattle.never_check.proofs.Forwarding.{given_plain}
use Rattle.never_check.proofs.backward.check_kept.Goals as goal

pub check_plain-requires-clause-given : goal.check_plain-requires-clause-given
check_plain-requires-clause-given c = given_plain c.rules-plain.result c.args.given.now c.requires.given c.rules-plain.ensures

pub returns : goal.returns
returns c = subst (λ (k : KnownClauses). IsBackwardVerdict c.args.given.now.task.now k.clauses c.args.given.now.clauses.now c.in_ok-verdict.verdict) c.rules-plain.ensures.known c.in_ok-verdict.ensures
