use Rattle.std.specs.Prelude.{ℕ, List, Bool}
use Rattle.gt_core.specs.Task.{Task}
use Rattle.gt_core.specs.Step.{IsStepPlan}
use Rattle.gt_core.specs.Published.{order_of}
use Rattle.clause_base.specs.Formula.{Satisfies, IsUnsatisfiable}
use Rattle.formula_defs.specs.Coded.{formula_of}
use Rattle.formula_defs.proofs.published.InRange.{IsInRange}
use Rattle.step_laws.specs.Form.{OrderedTask, IsOrderedTask, AreSets, steps_at}

-- What an encoding rests on: which sets of actions are a plan, for a task, an order of its actions and a number of steps,
-- and where the chains go of the formulas that say so.

-- Sets that are a plan are a step plan. A plan of n steps is what a satisfying assignment stands for of the formula whose chains
-- go to these places, and where no assignment satisfies it there is none.
pub record IsStepping (places : Task → List (List ℕ) → List (List ℕ × ℕ)) (are_plan : Task → List ℕ → (ℕ → ℕ → Bool) → ℕ → Type 0) : Type 0 where
  pub steps : (task : Task) (order : List ℕ) (sets : ℕ → ℕ → Bool) (n : ℕ) → are_plan task order sets n → IsStepPlan task order sets n
  pub in_range : (form : OrderedTask) → IsOrderedTask form → IsInRange form.task form.known.clauses (places form.task form.components)
  pub plans :
      (form : OrderedTask) → IsOrderedTask form → (n : ℕ) (v : ℕ → Bool)
      → Satisfies v (formula_of form.task form.known.clauses (places form.task form.components) n).clauses
      → AreSets are_plan form.task (order_of form.components) (steps_at form (places form.task form.components) n v) n
  pub refutes :
      (form : OrderedTask) → IsOrderedTask form → (n : ℕ) → IsUnsatisfiable (formula_of form.task form.known.clauses (places form.task form.components) n).clauses
      → (steps : List (List ℕ)) → AreSets are_plan form.task (order_of form.components) steps n → ⊥
