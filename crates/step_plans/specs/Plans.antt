-- Step plans as lists.
use Rattle.std.specs.Prelude.{◌≡◌, ◌==◌, ◌<◌, ℕ, Bool, true, false, List, length}
use Rattle.std.specs.List.{filter, flat_map, AllByRecursion}
use Rattle.gt_core.specs.Literal.{is_in}
use Rattle.gt_core.specs.Published.{Pairwise}
use Rattle.gt_core.specs.Task.{Task}
use Rattle.gt_core.specs.Step.{IsStepPlan}
use Rattle.step_laws.specs.Form.{AreSets}

-- no two members of a set are barred from being together
abbrev pub NoneBarred : (ℕ → ℕ → Bool) → (ℕ → Bool) → Type 0
NoneBarred bars members = (a b : ℕ) → members a ≡ true → members b ≡ true → bars a b ≡ false

-- a step plan of so many steps, and no two members of one of its sets are barred from being together
pub record IsStepPlanOf (bars : ℕ → ℕ → Bool) (task : Task) (order : List ℕ) (sets : ℕ → ℕ → Bool) (n : ℕ) : Type 0 where
  pub plan : IsStepPlan task order sets n
  pub each : (t : ℕ) → t < n → NoneBarred bars (sets t)

-- these lists of actions, taken as sets, are a step plan of so many steps
abbrev pub AreStepPlan : Task → List ℕ → List (List ℕ) → ℕ → Type 0
AreStepPlan task order steps n = AreSets IsStepPlan task order steps n

-- the members of each set, step after step and each step in the order
abbrev pub in_order : List ℕ → List (List ℕ) → List ℕ
in_order order steps = flat_map (λ set. filter (is_in set) order) steps

-- each set has its members as the order has them, each once
abbrev pub AreListed : List ℕ → List (List ℕ) → Type 0
AreListed order steps = AllByRecursion (λ set. set ≡ filter (is_in set) order) steps

-- the actions of lists, one list after the other
abbrev pub actions_in : List (List ℕ) → List ℕ
actions_in steps = flat_map (λ set. set) steps

-- the list has actions of the task, none of them twice
pub record HasActionsOnce (task : Task) (set : List ℕ) : Type 0 where
  pub actions : AllByRecursion (λ a. a < length task.actions) set
  pub once : Pairwise (λ a b. (a == b) ≡ false) set
