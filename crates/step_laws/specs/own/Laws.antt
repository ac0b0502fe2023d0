use Rattle.std.specs.Prelude.{ℕ, ◌≤◌, List, Bool, length}
use Rattle.gt_core.specs.Task.{initial_state}
use Rattle.gt_core.specs.Execution.{CanRun, run, IsGoal}
use Rattle.clause_base.specs.Formula.{Satisfies, IsUnsatisfiable}
use Rattle.formula_defs.specs.Coded.{formula_of}
use Rattle.step_laws.specs.Form.{OrderedTask, IsOrderedTask, IsPlanOf, steps_at, places_of}

-- The laws of formulas, by which lists of sets are plans of so many steps of a task, and where the chains of its formulas go.

-- an assignment that satisfies the formula of a horizon stands for a plan, each set listed in published order
abbrev pub SatisfyingStandsForPlan : (OrderedTask → ℕ → List (List ℕ) → Type 0) → (OrderedTask → List (List ℕ × ℕ)) → Type 0
SatisfyingStandsForPlan is_plan places =
    (form : OrderedTask) → IsOrderedTask form → (n : ℕ) (v : ℕ → Bool)
    → Satisfies v (formula_of form.task form.known.clauses (places form) n).clauses → is_plan form n (steps_at form (places form) n v)

-- where there is a plan of so many steps an assignment satisfies the formula of the horizon
abbrev pub PlanHasSatisfying : (OrderedTask → ℕ → List (List ℕ) → Type 0) → (OrderedTask → List (List ℕ × ℕ)) → Type 0
PlanHasSatisfying is_plan places =
    (form : OrderedTask) → IsOrderedTask form → (n : ℕ) (steps : List (List ℕ)) → is_plan form n steps
    → (v : ℕ → Bool) × Satisfies v (formula_of form.task form.known.clauses (places form) n).clauses

-- so where no assignment satisfies the formula of a horizon there is no plan of so many steps
abbrev pub UnsatisfiableHasNoPlan : (OrderedTask → ℕ → List (List ℕ) → Type 0) → (OrderedTask → List (List ℕ × ℕ)) → Type 0
UnsatisfiableHasNoPlan is_plan places =
    (form : OrderedTask) → IsOrderedTask form → (n : ℕ) → IsUnsatisfiable (formula_of form.task form.known.clauses (places form) n).clauses
    → (steps : List (List ℕ)) → is_plan form n steps → ⊥

-- where at most n actions, one after the other, lead to the goal, there is a plan of n steps
abbrev pub SequenceHasPlan : (OrderedTask → ℕ → List (List ℕ) → Type 0) → Type 0
SequenceHasPlan is_plan =
    (form : OrderedTask) (n : ℕ) (ks : List ℕ) → length ks ≤ n → CanRun form.task (initial_state form.task) ks
    → IsGoal form.task (run form.task (initial_state form.task) ks) → (steps : List (List ℕ)) × is_plan form n steps

-- The laws of step plans, whose chains go over each component.

-- a satisfying assignment stands for a step plan
abbrev pub SatisfyingIsPlan : Type 0
SatisfyingIsPlan = SatisfyingStandsForPlan IsPlanOf places_of

-- a step plan gives a satisfying assignment
abbrev pub PlanIsSatisfying : Type 0
PlanIsSatisfying = PlanHasSatisfying IsPlanOf places_of

-- where no assignment satisfies the formula there is no step plan
abbrev pub UnsatisfiableIsNoPlan : Type 0
UnsatisfiableIsNoPlan = UnsatisfiableHasNoPlan IsPlanOf places_of

-- at most n actions in sequence are a step plan of n steps
abbrev pub SequenceIsPlan : Type 0
SequenceIsPlan = SequenceHasPlan IsPlanOf
