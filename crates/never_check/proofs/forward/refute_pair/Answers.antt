use Rattle.never_check.proofs.Following.{clause_among}
use Rattle.never_check.proofs.Forwarding.{pair_told}
use Rattle.never_check.proofs.forward.refute_pair.Goals as goal

pub returns-clause-told : goal.returns-clause-told
returns-clause-told c =
    let rules = c.args.trial.now.rules.now in
    let at = clause_among rules.clauses.now c.args.number c.at.result.now c.at.ensures in
    pair_told rules c.args.trial.now.act.now c.args.trail.now c.requires.assumed.least c.new-more.result c.at.result.now c.args.number c.in_ok-refuted.refuted c.new-more.ensures at.1 c.in_ok-refuted.ensures.told
