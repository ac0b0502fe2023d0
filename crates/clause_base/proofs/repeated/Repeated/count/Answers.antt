use Rattle.clause_base.proofs.published.RepeatLemmas.{count_value, lawful_now, below_now}
use Rattle.clause_base.proofs.repeated.Repeated.count.Goals as goal

pub returns-clause-value : goal.returns-clause-value
returns-clause-value c = count_value _ _ _ c.self.view_is c.self.invariant.all_are

pub returns-clause-lawful : goal.returns-clause-lawful
returns-clause-lawful c = lawful_now _ _ c.self.view_is c.self.invariant.is c.self.invariant.step_lawful c.self.invariant.time_lawful

pub returns-clause-below : goal.returns-clause-below
returns-clause-below c = below_now _ _ c.self.view_is c.self.invariant.is c.self.invariant.step_lawful c.self.invariant.time_lawful
