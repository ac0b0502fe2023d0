use Rattle.step_laws.proofs.AllReading.{all_plans}
use Rattle.step_laws.proofs.published.AllWriting.{all_satisfied, all_refutes, sequence_is_all_plan}
use Rattle.step_laws.proofs.all_laws.laws.Goals as goal

pub returns-clause-satisfying_is_plan : goal.returns-clause-satisfying_is_plan
returns-clause-satisfying_is_plan c = all_plans

pub returns-clause-plan_is_satisfying : goal.returns-clause-plan_is_satisfying
returns-clause-plan_is_satisfying c = all_satisfied

pub returns-clause-unsatisfiable_is_no_plan : goal.returns-clause-unsatisfiable_is_no_plan
returns-clause-unsatisfiable_is_no_plan c = all_refutes

pub returns-clause-sequence_is_plan : goal.returns-clause-sequence_is_plan
returns-clause-sequence_is_plan c = sequence_is_all_plan
