use Rattle.std.specs.Prelude.{◌≡◌, ℕ, ◌-◌, ◌==◌, List, [], ◌∷◌, Bool, true, map, length, if◌then◌else◌}
use Rattle.std.specs.List.{filter}
use Rattle.gt_core.specs.Literal.{is_in, range}
use Rattle.gt_core.specs.Task.{Task}
use Rattle.gt_core.specs.Lawful.{is_task}
use Rattle.gt_core.specs.Reached.{HoldsWherever}
use Rattle.gt_core.specs.Published.{IsPublished, order_of}
use Rattle.gt_core.specs.Step.{IsStepPlan}
use Rattle.gt_core.specs.Clauses.{KnownClauses, IsKnownClauses}
use Rattle.formula_defs.specs.Layout.{action_at}
use Rattle.formula_defs.specs.Variables.{layout_of, chain_places}

-- a task, the clauses known of its states, and its published order as components
pub record OrderedTask : Type 0 where
  pub task : Task
  pub known : KnownClauses
  pub components : List (List ℕ)

-- where the chains go
abbrev pub places_of : OrderedTask → List (List ℕ × ℕ)
places_of form = chain_places form.task form.components

-- the task is lawful, the known pairs are over its facts and hold in every state that actions lead to, and the
-- order is the published one
pub record IsOrderedTask (form : OrderedTask) : Type 0 where
  pub lawful : is_task form.task ≡ true
  pub known : IsKnownClauses form.known
  pub facts : form.known.facts ≡ form.task.facts
  pub hold : HoldsWherever form.task form.known.clauses
  pub published : IsPublished form.task form.known.clauses form.components

-- the set at a time; past the last, the empty set
abbrev pub set_at : List (List ℕ) → ℕ → List ℕ
set_at [] t = []
set_at (x ∷ xs) t = if t == 0 then x else set_at xs (t - 1)

-- an action is in the set at a time
abbrev pub member_at : List (List ℕ) → ℕ → ℕ → Bool
member_at steps t a = is_in (set_at steps t) a

-- lists of actions that, taken as sets, are a plan of so many steps, where it is told which sets are one for a task and an
-- order of its actions
pub record AreSets (are_plan : Task → List ℕ → (ℕ → ℕ → Bool) → ℕ → Type 0) (task : Task) (order : List ℕ) (steps : List (List ℕ)) (n : ℕ) : Type 0 where
  pub long : length steps ≡ n
  pub plan : are_plan task order (member_at steps) n

-- a list of n sets whose steps lead from the initial state to the goal
abbrev pub IsPlanOf : OrderedTask → ℕ → List (List ℕ) → Type 0
IsPlanOf form n steps = AreSets IsStepPlan form.task (order_of form.components) steps n

-- the sets of true actions of an assignment, each listed in published order, where the chains go to these places
abbrev pub steps_at : OrderedTask → List (List ℕ × ℕ) → ℕ → (ℕ → Bool) → List (List ℕ)
steps_at form places n v = map (λ t. filter (λ a. v (action_at (layout_of form.task places n) t a)) (order_of form.components)) (range n)

-- the same for exists-steps
abbrev pub steps_for : OrderedTask → ℕ → (ℕ → Bool) → List (List ℕ)
steps_for form n v = steps_at form (places_of form) n v
