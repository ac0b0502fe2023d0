use Rattle.std.specs.Prelude.{◌≡◌, ℕ, ◌<◌, List, [], ◌∷◌, Bool, true, false}
use Rattle.std.specs.List.{filter}
use Rattle.gt_core.specs.Literal.{is_in}
use Rattle.gt_core.specs.Task.{Task, initial_state}
use Rattle.gt_core.specs.Lawful.{is_task}
use Rattle.gt_core.specs.Execution.{Runs, CanRun, run, next_of_one, IsGoal}
use Rattle.gt_core.specs.Interference.{disables}
use Rattle.gt_core.specs.Published.{IsPublished, order_of, KeepsApart, HasEachOnce}
use Rattle.gt_core.specs.Step.{IsStep, IsStepPlan, sequence_of}
use Rattle.gt_core.specs.AllStep.{IsAllStep, HasMembersOnce}

-- the members of a step, run one after the other in published order, can each run and lead to the state after the step
pub record RunsInOrder (task : Task) (order : List ℕ) (s members t : ℕ → Bool) : Type 0 where
  pub runs : CanRun task s (filter members order)
  pub leads : (f : ℕ) → f < task.facts → run task s (filter members order) f ≡ t f

-- the law that each step runs in published order
abbrev pub EachStepRunsInOrder : Type 0
EachStepRunsInOrder =
    (task : Task) (clauses : List (ℕ × ℕ)) (components : List (List ℕ)) (s members t : ℕ → Bool)
    → IsPublished task clauses components → IsStep task (order_of components) s members t → RunsInOrder task (order_of components) s members t

-- an action does not disable itself
abbrev pub NeverItself : Type 0
NeverItself = (task : Task) (a : ℕ) → disables task a a ≡ false

-- the members of an all-step, run one after the other in any order, can each run and lead to the state after the step
abbrev pub EachOrderRuns : Type 0
EachOrderRuns =
    (task : Task) (order : List ℕ) (s members t : ℕ → Bool) (ks : List ℕ) → IsAllStep task order s members t → HasMembersOnce members ks
    → CanRun task s ks × ((f : ℕ) → f < task.facts → run task s ks f ≡ t f)

-- an action that can run is a step by itself, to the state after it
abbrev pub OneActionIsStep : Type 0
OneActionIsStep =
    (task : Task) (order : List ℕ) (s : ℕ → Bool) (a : ℕ) → Runs task s a → IsStep task order s (is_in (a ∷ [])) (next_of_one task s a)

-- the empty set is a step that changes nothing
abbrev pub EmptySetIsStep : Type 0
EmptySetIsStep = (task : Task) (order : List ℕ) (s : ℕ → Bool) → IsStep task order s (is_in []) s

-- in a published order an action that disables a later one of another component may not share a step with it
abbrev pub PublishedKeepsApart : Type 0
PublishedKeepsApart =
    (task : Task) (clauses : List (ℕ × ℕ)) (components : List (List ℕ)) → IsPublished task clauses components → KeepsApart task clauses components

-- there is one published order at most
abbrev pub PublishedIsUnique : Type 0
PublishedIsUnique =
    (task : Task) (clauses : List (ℕ × ℕ)) (components others : List (List ℕ))
    → IsPublished task clauses components → IsPublished task clauses others → components ≡ others

-- a published order has every action of the task exactly once
abbrev pub PublishedHasEachOnce : Type 0
PublishedHasEachOnce =
    (task : Task) (clauses : List (ℕ × ℕ)) (components : List (List ℕ)) → IsPublished task clauses components → HasEachOnce task components

-- actions run one after the other from the initial state, and reach the goal
pub record IsRunToGoal (task : Task) (actions : List ℕ) : Type 0 where
  pub runs : CanRun task (initial_state task) actions
  pub reaches : IsGoal task (run task (initial_state task) actions)

-- no actions are a run to the goal, however many
abbrev pub HasNoRun : Task → Type 0
HasNoRun task = (actions : List ℕ) → IsRunToGoal task actions → ⊥

-- a step plan, each step listed in published order, runs action by action and reaches the goal
abbrev pub StepPlanRunsInOrder : Type 0
StepPlanRunsInOrder =
    (task : Task) (clauses : List (ℕ × ℕ)) (components : List (List ℕ)) (steps : ℕ → ℕ → Bool) (n : ℕ)
    → is_task task ≡ true → IsPublished task clauses components → IsStepPlan task (order_of components) steps n
    → IsRunToGoal task (sequence_of (order_of components) steps n)
