use Rattle.clause_base.proofs.published.RepeatLemmas.{step_clause_is}
use Rattle.clause_base.proofs.repeated.Repeated.step_clause.Goals as goal

pub returns : goal.returns
returns c = step_clause_is _ _ c.args.step _ c.args.place _ c.self.view_is c.facts_at.ensures _ c.requires.step c.requires.place c.clause.ensures.value c.moved.ensures
