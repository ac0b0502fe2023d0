use Rattle.step_laws.specs.Form.{places_of}
use Rattle.step_plans.proofs.Listed.{step_plans_run, listed_in_order, steps_listed}
use Rattle.step_plans.proofs.Short.{short_plans}
use Rattle.step_plans.proofs.Sets.{lists_of, are_lists}
use Rattle.step_plans.proofs.Grow.{grown, grows, longer, all_once}
use Rattle.step_plans.proofs.laws.laws.Goals as goal

pub returns-clause-run : goal.returns-clause-run
returns-clause-run c p g known components steps n = step_plans_run p g known components steps n c.laws.ensures.plan_runs c.laws-2.ensures.actions_are_calls c.laws-2.ensures.goals_agree

pub returns-clause-short : goal.returns-clause-short
returns-clause-short c bars p g order n calls = short_plans bars p g order n calls c.laws-2.ensures.calls_are_actions c.laws-2.ensures.goals_agree

pub returns-clause-grow : goal.returns-clause-grow
returns-clause-grow c bars task order sets k n le of = (grown bars task order c.laws.ensures.empty_set sets k, grows bars task order c.laws.ensures.empty_set sets k n le of)

pub returns-clause-longer : goal.returns-clause-longer
returns-clause-longer c bars task order n = longer bars task order c.laws.ensures.empty_set n

pub returns-clause-once : goal.returns-clause-once
returns-clause-once c task clauses components steps published = all_once task clauses components published c.laws.ensures.each_once steps

pub returns-clause-in_order : goal.returns-clause-in_order
returns-clause-in_order c = listed_in_order

pub returns-clause-listed : goal.returns-clause-listed
returns-clause-listed c form n values = steps_listed form (places_of form) n values

pub returns-clause-listed_at : goal.returns-clause-listed_at
returns-clause-listed_at c = steps_listed

pub returns-clause-lists : goal.returns-clause-lists
returns-clause-lists c bars task order sets n of = let l = are_lists bars task order sets n of in (lists_of task sets n, l.0, l.1)
