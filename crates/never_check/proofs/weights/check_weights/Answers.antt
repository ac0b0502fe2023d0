use Rattle.std.proofs.Common.{◌∙◌, ap, subst}
use Rattle.gt_core.specs.Clauses.{KnownClauses}
use Rattle.never_check.specs.WeightsVerdicts.{IsWeightsVerdict}
use Rattle.never_check.proofs.Weighing.{summed_plain}
use Rattle.never_check.proofs.weights.check_weights.Goals as goal

pub check_plain-requires-clause-facts : goal.check_plain-requires-clause-facts
check_plain-requires-clause-facts c = ap (λ (k : KnownClauses). k.facts) c.rules-plain.ensures.known ∙ c.requires.facts

pub check_plain-requires-clause-weights : goal.check_plain-requires-clause-weights
check_plain-requires-clause-weights c = summed_plain c.rules-plain.result c.args.known.now c.rules-plain.ensures c.args.weights.now c.args.task.now.facts c.requires.facts c.requires.over c.requires.total

pub returns : goal.returns
returns c = subst (λ (k : KnownClauses). IsWeightsVerdict c.args.task.now k.clauses c.args.weights.now c.in_ok-verdict.verdict) c.rules-plain.ensures.known c.in_ok-verdict.ensures
