-- What is claimed of a task and of the files that say it.
use Rattle.std.specs.Prelude.{◌≡◌, ◌≤◌, ℕ, List, [], ◌∷◌, ◌++◌, length, Bool, Option, Some}
use Rattle.pl_io.specs.Outside.{Heard, whole}
use Rattle.pd_model.specs.Plan.{IsPlan}
use Rattle.pd_model.specs.declared.calls.Call.{Call}
use Rattle.pd_model.specs.declared.parts.Parts.{Parts}
use Rattle.gt_core.specs.Published.{order_of}
use Rattle.grounding_defs.specs.Grounded.{Grounded, IsGrounded}
use Rattle.requests.specs.declared.request.Stepping.{Stepping}
use Rattle.step_plans.specs.Known.{IsOrdered}
use Rattle.plan_tasks.specs.Stepping.{is_plan_by}
use Rattle.plan_tasks.specs.Tasks.{AreTask}

-- the bytes that a sink took in between, where it tells them
abbrev pub Printed : Option (List ℕ) → Option (List ℕ) → List ℕ → Type 0
Printed old new text = (before : List ℕ) × (old ≡ Some before) × (new ≡ Some (before ++ text))

-- What was handed over in between is two files of these names, all of each, which are a task of which the claim holds. (Files are at
-- most one task.)
abbrev pub OfFiles : List Heard → List Heard → List ℕ → List ℕ → (Parts → Type 0) → Type 0
OfFiles old new domain problem claim =
    (first second : List ℕ) × (new ≡ old ++ whole domain first ∷ whole problem second ∷ []) × (task : Parts) × AreTask first second task × claim task

-- What a task is grounded to, the clauses that are known of it, and its actions in published order, as their components:
-- there are such, there are no others, and the claim holds of them.
pub record OfGrounded (task : Parts) (claim : Grounded → List (ℕ × ℕ) → List (List ℕ) → Type 0) : Type 0 where
  pub g : Grounded
  pub clauses : List (ℕ × ℕ)
  pub components : List (List ℕ)
  pub grounded : IsGrounded task g
  pub ordered : IsOrdered g.task clauses components
  pub only : (h : Grounded) (others : List (ℕ × ℕ)) (parts : List (List ℕ)) → IsGrounded task h → IsOrdered h.task others parts → (h ≡ g) × (others ≡ clauses) × (parts ≡ components)
  pub holds : claim g clauses components

-- each plan in these steps has at least so many
abbrev pub HasAtLeast : Stepping → ℕ → Parts → Type 0
HasAtLeast how n task = OfGrounded task (λ g clauses components. (sets : ℕ → ℕ → Bool) (k : ℕ) → is_plan_by how g.task (order_of components) sets k → n ≤ k)

-- no list of so many sets of actions, or of fewer, is a step plan
abbrev pub NoStepPlan : Stepping → ℕ → Parts → Type 0
NoStepPlan how horizon task = OfGrounded task (λ g clauses components. (sets : ℕ → ℕ → Bool) (n : ℕ) → n ≤ horizon → is_plan_by how g.task (order_of components) sets n → ⊥)

-- no list of at most so many calls is a plan
abbrev pub NoPlan : ℕ → Parts → Type 0
NoPlan horizon task = (calls : List Call) → length calls ≤ horizon → IsPlan task calls → ⊥
