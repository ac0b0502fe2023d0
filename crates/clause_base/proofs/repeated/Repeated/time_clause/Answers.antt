use Rattle.clause_base.proofs.published.RepeatLemmas.{time_stays_at, time_clause_is}
use Rattle.clause_base.proofs.repeated.Repeated.time_clause.Goals as goal

pub moved-requires-clause-codes : goal.moved-requires-clause-codes
moved-requires-clause-codes c = time_stays_at _ _ c.args.time _ c.args.place _ c.self.view_is c.facts_at.ensures c.self.invariant.is c.requires.time c.clause.ensures.value

pub returns : goal.returns
returns c = time_clause_is _ _ c.args.time _ c.args.place _ c.self.view_is c.facts_at.ensures _ c.requires.time c.requires.place c.clause.ensures.value c.moved.ensures
