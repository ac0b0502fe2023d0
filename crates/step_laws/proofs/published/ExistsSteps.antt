use Rattle.gt_core.specs.Step.{IsStepPlan}
use Rattle.formula_defs.specs.Variables.{chain_places}
use Rattle.step_laws.specs.Stepping.{IsStepping}
use Rattle.step_laws.proofs.published.Ranges.{in_range_of}
use Rattle.step_laws.proofs.FormLaw.{plans, refutes}

-- Exists-steps, with chains for each component.

pub exists_steps : IsStepping chain_places IsStepPlan
exists_steps = record { steps = λ task order sets n plan. plan; in_range = in_range_of; plans = plans; refutes = refutes }
