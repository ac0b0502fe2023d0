use Rattle.clause_base.proofs.published.RepeatLemmas.{steps_value}
use Rattle.clause_base.proofs.repeated.Repeated.step_clauses.Goals as goal

pub returns-clause-value : goal.returns-clause-value
returns-clause-value c = steps_value _ _ _ c.self.view_is c.self.invariant.steps_are
