use Rattle.std.specs.Prelude.{ℕ, List}
use Rattle.gt_core.specs.Published.{order_of}
use Rattle.gt_core.specs.AllStep.{IsAllStepPlan}
use Rattle.step_laws.specs.Form.{OrderedTask, AreSets}
use Rattle.step_chains.specs.BothWays as places

-- where the chains of all-steps go
abbrev pub all_places : OrderedTask → List (List ℕ × ℕ)
all_places form = places.all_places form.task form.components

-- a list of n sets that is a step plan, each of whose steps is an all-step
abbrev pub IsAllPlanOf : OrderedTask → ℕ → List (List ℕ) → Type 0
IsAllPlanOf form n steps = AreSets IsAllStepPlan form.task (order_of form.components) steps n
