-- The laws by which an encoding is a form, as its `impl` cites them, from what it rests on.
use Rattle.std.specs.Prelude.{◌≡◌, ℕ, ◌<◌, List, Bool, length, refl}
use Rattle.std.specs.List.{AllByRecursion}
use Rattle.gt_core.specs.Task.{Task}
use Rattle.gt_core.specs.Published.{order_of}
use Rattle.clause_base.specs.Formula.{IsModel, IsUnsatisfiable, assignment_of}
use Rattle.gt_core.specs.Step.{IsStepPlan}
use Rattle.formula_defs.specs.Variables.{layout_of, chain_places}
use Rattle.formula_defs.specs.Coded.{formula_of}
use Rattle.step_laws.specs.Form.{OrderedTask, IsOrderedTask, AreSets, member_at, steps_at}
use Rattle.step_laws.specs.Stepping.{IsStepping}
use Rattle.step_laws.proofs.published.MembersLaw as members
use Rattle.step_laws.proofs.published.ExistsSteps.{exists_steps}
use Rattle.step_encoding.specs.Numbers.{HasNumbersOf}

module _ (places : Task → List (List ℕ) → List (List ℕ × ℕ)) (are_plan : Task → List ℕ → (ℕ → ℕ → Bool) → ℕ → Type 0) where
  -- the places of the chains of an ordered task
  abbrev at : OrderedTask → List (List ℕ × ℕ)
  at form = places form.task form.components

  -- lists of actions are a plan of so many steps of this kind
  abbrev IsPlan : OrderedTask → ℕ → List (List ℕ) → Type 0
  IsPlan form n steps = AreSets are_plan form.task (order_of form.components) steps n

  -- the law that layout and formula have the numbers of the task
  pub numbers_of : (form : OrderedTask) (n : ℕ) → HasNumbersOf form.task n (layout_of form.task (at form) n) (formula_of form.task form.known.clauses (at form) n)
  numbers_of form n = record { horizon = refl; actions = refl; conditional = refl; facts = refl; name = refl; variables = refl }

  -- the law that a plan at a horizon has as many sets
  pub sets_of : (form : OrderedTask) (n : ℕ) (steps : List (List ℕ)) → IsPlan form n steps → length steps ≡ n
  sets_of form n steps plan = plan.long

  module _ (by : IsStepping places are_plan) where
    -- the law that what a model stands for is a plan
    pub plans_of : (form : OrderedTask) (n : ℕ) (values : List Bool) → IsOrderedTask form → IsModel (formula_of form.task form.known.clauses (at form) n) values → IsPlan form n (steps_at form (at form) n (assignment_of values))
    plans_of form n values is model = by.plans form is n (assignment_of values) model.satisfies

    -- the law that there is no plan where no assignment satisfies the formula
    pub refutes_of : (form : OrderedTask) (n : ℕ) → IsOrderedTask form → IsUnsatisfiable (formula_of form.task form.known.clauses (at form) n).clauses → (steps : List (List ℕ)) → IsPlan form n steps → ⊥
    refutes_of form n is unsatisfiable steps plan = by.refutes form is n unsatisfiable steps plan

    -- the law that the members of a plan are actions of the task
    pub members_of : (form : OrderedTask) (n : ℕ) (steps : List (List ℕ)) → IsPlan form n steps → AllByRecursion (λ set. AllByRecursion (λ a. a < length form.task.actions) set) steps
    members_of form n steps plan = members.members_of form n steps (record { long = plan.long; plan = by.steps form.task (order_of form.components) (member_at steps) n plan.plan })

-- the law that chains over components give exists-steps
pub by_components : IsStepping chain_places IsStepPlan
by_components = exists_steps
