-- In which steps a plan is looked for: the field's exists-steps, of which the members run in one published order, or all-steps, of
-- which they run in every order (Rintanen, Heljanko and Niemelä 2006).
use Rattle.std.specs.Prelude.{ℕ, List, Bool, false}
use Rattle.gt_core.specs.Task.{Task}
use Rattle.gt_core.specs.Interference.{disables}
use Rattle.gt_core.specs.Step.{IsStepPlan}
use Rattle.gt_core.specs.AllStep.{IsAllStepPlan}
use Rattle.step_chains.specs.BothWays.{all_places}
use Rattle.formula_defs.specs.Variables.{chain_places}
use Rattle.requests.specs.declared.request.Stepping.{Stepping}
use Rattle.requests.specs.declared.request.Stepping.TheVariants.{Exists, All}

-- the places of the chains of a formula
abbrev pub places_by : Stepping → Task → List (List ℕ) → List (List ℕ × ℕ)
places_by Exists = chain_places
places_by All = all_places

-- so many sets are a plan
abbrev pub is_plan_by : Stepping → Task → List ℕ → (ℕ → ℕ → Bool) → ℕ → Type 0
is_plan_by Exists = IsStepPlan
is_plan_by All = IsAllStepPlan

-- which two actions may share no step, whatever their order
abbrev pub bars_by : Stepping → Task → ℕ → ℕ → Bool
bars_by Exists task a b = false
bars_by All task a b = disables task a b
