-- What step plans have to do with plans.
use Rattle.std.specs.Prelude.{◌≡◌, ◌≤◌, ◌<◌, ℕ, List, Bool, true, false, length}
use Rattle.std.specs.List.{AllByRecursion}
use Rattle.gt_core.specs.Lawful.{is_task}
use Rattle.gt_core.specs.Task.{Task}
use Rattle.gt_core.specs.Published.{IsPublished, order_of}
use Rattle.pd_model.specs.Plan.{IsPlan}
use Rattle.pd_model.specs.declared.calls.Call.{Call}
use Rattle.pd_model.specs.declared.parts.Parts.{Parts}
use Rattle.grounding_defs.specs.Grounded.{Grounded, IsGrounded}
use Rattle.grounding_defs.specs.Laws.{AreNumbers}
use Rattle.step_laws.specs.Form.{OrderedTask, member_at, steps_at, steps_for}
use Rattle.step_plans.specs.Plans.{IsStepPlanOf, AreStepPlan, AreListed, HasActionsOnce, in_order, actions_in}

-- the calls of a step plan, step after step and each step in published order, are a plan
abbrev pub StepPlansRun : Type 0
StepPlansRun =
    (p : Parts) (g : Grounded) (known : List (ℕ × ℕ)) (components : List (List ℕ)) (steps : List (List ℕ)) (n : ℕ)
    → IsGrounded p g → is_task g.task ≡ true → IsPublished g.task known components → AreStepPlan g.task (order_of components) steps n
    → (calls : List Call) × AreNumbers g calls (in_order (order_of components) steps) × IsPlan p calls

-- Where there is a plan of at most n calls there is a step plan of n steps, whatever the order of the actions and whatever two
-- of them are barred from being together.
abbrev pub ShortPlansAreStepPlans : Type 0
ShortPlansAreStepPlans =
    (bars : ℕ → ℕ → Bool) (p : Parts) (g : Grounded) (order : List ℕ) (n : ℕ) (calls : List Call)
    → ((a : ℕ) → bars a a ≡ false) → IsGrounded p g → length calls ≤ n → IsPlan p calls
    → (steps : ℕ → ℕ → Bool) × IsStepPlanOf bars g.task order steps n

-- a step plan is one of more steps too, with empty sets after its own
abbrev pub StepPlansGrow : Type 0
StepPlansGrow =
    (bars : ℕ → ℕ → Bool) (task : Task) (order : List ℕ) (sets : ℕ → ℕ → Bool) (k n : ℕ)
    → k ≤ n → IsStepPlanOf bars task order sets k → (more : ℕ → ℕ → Bool) × IsStepPlanOf bars task order more n

-- where there is no step plan of n steps, each step plan has more
abbrev pub OtherPlansAreLonger : Type 0
OtherPlansAreLonger =
    (bars : ℕ → ℕ → Bool) (task : Task) (order : List ℕ) (n : ℕ)
    → ((sets : ℕ → ℕ → Bool) → IsStepPlanOf bars task order sets n → ⊥)
    → (sets : ℕ → ℕ → Bool) (k : ℕ) → IsStepPlanOf bars task order sets k → n < k

-- the sets of a step plan can be listed
abbrev pub SetsAreLists : Type 0
SetsAreLists =
    (bars : ℕ → ℕ → Bool) (task : Task) (order : List ℕ) (sets : ℕ → ℕ → Bool) (n : ℕ) → IsStepPlanOf bars task order sets n
    → (steps : List (List ℕ)) × (length steps ≡ n) × IsStepPlanOf bars task order (member_at steps) n

-- lists that have their members as a published order has them have actions of the task, none of them twice
abbrev pub ListedHaveActionsOnce : Type 0
ListedHaveActionsOnce =
    (task : Task) (clauses : List (ℕ × ℕ)) (components : List (List ℕ)) (steps : List (List ℕ))
    → IsPublished task clauses components → AreListed (order_of components) steps → AllByRecursion (HasActionsOnce task) steps

-- lists that have their members as the order has them are in order one after the other
abbrev pub ListedAreInOrder : Type 0
ListedAreInOrder = (order : List ℕ) (steps : List (List ℕ)) → AreListed order steps → in_order order steps ≡ actions_in steps

-- what an assignment stands for is listed in published order, wherever the chains go
abbrev pub SetsAtPlacesAreListed : Type 0
SetsAtPlacesAreListed =
    (form : OrderedTask) (places : List (List ℕ × ℕ)) (n : ℕ) (values : ℕ → Bool) → AreListed (order_of form.components) (steps_at form places n values)

-- the same for exists-steps
abbrev pub SetsOfFormsAreListed : Type 0
SetsOfFormsAreListed = (form : OrderedTask) (n : ℕ) (values : ℕ → Bool) → AreListed (order_of form.components) (steps_for form n values)
