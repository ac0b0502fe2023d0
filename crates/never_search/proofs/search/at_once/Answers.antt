use Rattle.never_search.proofs.search.at_once.Goals as goal

pub returns-then-not-hopeless : goal.returns-then-not-hopeless
returns-then-not-hopeless c = c.plan_of.ensures c.args.pairs.now.clauses
