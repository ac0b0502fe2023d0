use Rattle.rup_check.specs.own.Kept.{kept_named}
use Rattle.rup_check.proofs.SameMembers.{falsified_leads}
use Rattle.rup_check.proofs.entry.leads_from.Goals as goal

pub returns-clause-answer : goal.returns-clause-answer
returns-clause-answer c =
    let named = kept_named c.args.formula.now.clauses c.args.kept.now.dropped.items c.args.kept.now.learned in
    falsified_leads named _ _ c.args.clause.now c.args.hints.now _ c.requires.empty c.in_ok-falsify_all.ensures.falsified c.in_ok-conflict.ensures.answer
