-- What is known of a ground task and of a refuted horizon of it means for the task.
use Rattle.std.proofs.Common.{◌≡◌, ◌<◌, ◌≤◌, ℕ, ◌+◌, Bool, false, List, refl, subst, arith}
use Rattle.gt_core.specs.Published.{IsPublished, order_of}
use Rattle.gt_core.specs.Task.{Task}
use Rattle.gt_core.specs.Laws.{NeverItself}
use Rattle.pd_model.specs.declared.parts.Parts.{Parts}
use Rattle.grounding_defs.specs.Grounded.{Grounded, IsGrounded}
use Rattle.step_laws.specs.Form.{AreSets, member_at}
use Rattle.step_plans.specs.Plans.{IsStepPlanOf}
use Rattle.requests.specs.declared.request.Stepping.{Stepping}
use Rattle.requests.specs.declared.request.Stepping.TheVariants.{Exists, All}
use Rattle.step_plans.specs.Known.{IsOrdered}
use Rattle.plan_tasks.specs.Stepping.{is_plan_by, bars_by}
use Rattle.plan_tasks.specs.Tasks.{IsReady}
use Rattle.plan_tasks.specs.Claims.{OfGrounded, HasAtLeast, NoStepPlan, NoPlan}
use Rattle.plan_tasks.specs.Laws.{TaskLaws}

-- what a plan in steps of a kind is, as the laws of step plans have it
pub as_barred : (how : Stepping) (task : Task) (order : List ℕ) (sets : ℕ → ℕ → Bool) (n : ℕ) → is_plan_by how task order sets n → IsStepPlanOf (bars_by how task) task order sets n
as_barred Exists task order sets n plan = record { plan = plan; each = λ t lt a b x y. refl }
as_barred All task order sets n plan = record { plan = plan.plan; each = plan.none }

from_barred : (how : Stepping) (task : Task) (order : List ℕ) (sets : ℕ → ℕ → Bool) (n : ℕ) → IsStepPlanOf (bars_by how task) task order sets n → is_plan_by how task order sets n
from_barred Exists task order sets n of = of.plan
from_barred All task order sets n of = record { plan = of.plan; none = of.each }

bars_itself : NeverItself → (how : Stepping) (task : Task) (a : ℕ) → bars_by how task a a ≡ false
bars_itself itself Exists task a = refl
bars_itself itself All task a = itself task a

-- what is known of a ground task, and its order
module _ (laws : TaskLaws) (task : Parts) (g : Grounded) (ready : IsReady task g) (clauses : List (ℕ × ℕ)) (components : List (List ℕ)) (ordered : IsOrdered g.task clauses components) where
  only : (h : Grounded) (others : List (ℕ × ℕ)) (parts : List (List ℕ)) → IsGrounded task h → IsOrdered h.task others parts → (h ≡ g) × (others ≡ clauses) × (parts ≡ components)
  only h others parts is_h ordered_h =
      let same : h ≡ g = laws.one_result task h g is_h ready.grounded in
      let here : IsOrdered g.task others parts = subst (λ (x : Grounded). IsOrdered x.task others parts) same ordered_h in
      let known : others ≡ clauses = laws.invariants g.task others clauses here.known ordered.known in
      let published : IsPublished g.task clauses parts = subst (λ (cs : List (ℕ × ℕ)). IsPublished g.task cs parts) known here.published in
      (same, known, laws.unique g.task clauses parts components published ordered.published)

  pub of_grounded : (claim : Grounded → List (ℕ × ℕ) → List (List ℕ) → Type 0) → claim g clauses components → OfGrounded task claim
  of_grounded claim h = record { g = g; clauses = clauses; components = components; grounded = ready.grounded; ordered = ordered; only = only; holds = h }

  -- ---- refuted horizons

  module _ (how : Stepping) (horizon : ℕ) (none : (steps : List (List ℕ)) → AreSets (is_plan_by how) g.task (order_of components) steps horizon → ⊥) where
    no_sets : (sets : ℕ → ℕ → Bool) → IsStepPlanOf (bars_by how g.task) g.task (order_of components) sets horizon → ⊥
    no_sets sets of =
        let l = laws.lists (bars_by how g.task) g.task (order_of components) sets horizon of in
        none l.0 (record { long = l.1; plan = from_barred how g.task (order_of components) (member_at l.0) horizon l.2 })

    longer : (sets : ℕ → ℕ → Bool) (n : ℕ) → is_plan_by how g.task (order_of components) sets n → horizon < n
    longer sets n plan = laws.longer (bars_by how g.task) g.task (order_of components) horizon no_sets sets n (as_barred how g.task (order_of components) sets n plan)

    pub no_step_plan : NoStepPlan how horizon task
    no_step_plan =
        of_grounded (λ h clauses components. (sets : ℕ → ℕ → Bool) (n : ℕ) → n ≤ horizon → is_plan_by how h.task (order_of components) sets n → ⊥)
        (λ sets n le plan. let more = longer sets n plan in omega (arith, le, more))

    pub at_least : HasAtLeast how (horizon + 1) task
    at_least =
        of_grounded (λ h clauses components. (sets : ℕ → ℕ → Bool) (k : ℕ) → is_plan_by how h.task (order_of components) sets k → horizon + 1 ≤ k)
        (λ sets k plan. let more = longer sets k plan in omega (arith, more))

    pub no_plan : NoPlan horizon task
    no_plan calls short plan =
        let s = laws.short (bars_by how g.task) task g (order_of components) horizon calls (bars_itself laws.itself how g.task) ready.grounded short plan in
        no_sets s.0 s.1
