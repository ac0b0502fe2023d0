-- What the listed actions of steps are worth.
use Rattle.std.specs.Prelude.{ℕ, List, true, ◌≡◌}
use Rattle.gt_core.specs.Lawful.{is_task}
use Rattle.gt_core.specs.Published.{IsPublished, order_of}
use Rattle.pd_model.specs.Plan.{IsPlan}
use Rattle.pd_model.specs.declared.calls.Call.{Call}
use Rattle.pd_model.specs.declared.parts.Parts.{Parts}
use Rattle.grounding_defs.specs.Grounded.{Grounded, IsGrounded}
use Rattle.grounding_defs.specs.Laws.{AreNumbers}
use Rattle.step_plans.specs.Plans.{AreStepPlan}

-- these actions are those of calls that are a plan, where the steps are a step plan in this order
abbrev pub ArePlanOf : List (List ℕ) → List (List ℕ) → List ℕ → Type 0
ArePlanOf components steps actions =
    (p : Parts) (g : Grounded) (known : List (ℕ × ℕ)) (n : ℕ) → IsGrounded p g → is_task g.task ≡ true → IsPublished g.task known components
    → AreStepPlan g.task (order_of components) steps n → (calls : List Call) × AreNumbers g calls actions × IsPlan p calls
