use Rattle.step_laws.proofs.FormLaw.{plans, satisfied, refutes}
use Rattle.step_laws.proofs.published.SequenceLaw.{one_by_one, sequence_is_plan}
use Rattle.step_laws.proofs.NeverLaw.{never_is_no_plan}
use Rattle.step_laws.proofs.laws.laws.Goals as goal

pub returns-clause-satisfying_is_plan : goal.returns-clause-satisfying_is_plan
returns-clause-satisfying_is_plan c = plans

pub returns-clause-plan_is_satisfying : goal.returns-clause-plan_is_satisfying
returns-clause-plan_is_satisfying c = satisfied

pub returns-clause-unsatisfiable_is_no_plan : goal.returns-clause-unsatisfiable_is_no_plan
returns-clause-unsatisfiable_is_no_plan c = refutes

pub returns-clause-sequence_is_plan : goal.returns-clause-sequence_is_plan
returns-clause-sequence_is_plan c = λ form n ks le can goal. (one_by_one ks n, sequence_is_plan form n ks le can goal)

pub returns-clause-never_is_no_plan : goal.returns-clause-never_is_no_plan
returns-clause-never_is_no_plan c = never_is_no_plan
