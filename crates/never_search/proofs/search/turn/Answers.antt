use Rattle.never_search.proofs.search.turn.Goals as goal

pub returns-in-Some-2 : goal.returns-in-Some-2
returns-in-Some-2 c = c.plan_of.ensures c.args.pairs.now.clauses
