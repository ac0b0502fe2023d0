-- The check of weights: one sum an action, of the rise at worst.
use Rattle.std.specs.Prelude.{◌≡◌, ℕ, ◌<◌, ◌≤◌, List, [], Bool, false, length}
use Rattle.gt_core.specs.Literal.{is_in}
use Rattle.gt_core.specs.Task.{Action, Task, action, initial_state}
use Rattle.implied_literals.specs.Rows.{HasNoPair}
use Rattle.never_defs.specs.Sets.{weight_of, weight_in}
use Rattle.never_defs.specs.Propagation.{IsPropagated}
use Rattle.never_defs.specs.After.{comes_perhaps, goes_surely}

-- an action passes: what may come true weighs at most what surely becomes false
abbrev pub PassesWeights : List (ℕ × ℕ) → List (ℕ × ℕ) → Action → Type 0
PassesWeights known weights x =
    (set : ℕ → Bool) → IsPropagated known [] (is_in x.precondition) set → HasNoPair set
    → weight_of (comes_perhaps set x) weights ≤ weight_of (goes_surely set x) weights

-- the goal passes: it is hopeless, or what surely holds with it weighs more than the initial state
abbrev pub GoalPassesWeights : Task → List (ℕ × ℕ) → List (ℕ × ℕ) → Type 0
GoalPassesWeights task known weights =
    task.hopeless ≡ false
    → (set : ℕ → Bool) → IsPropagated known [] (is_in task.goal) set → HasNoPair set
    → weight_in (initial_state task) weights < weight_of set weights

-- the check of weights
pub record AreWeightsCertified (task : Task) (known : List (ℕ × ℕ)) (weights : List (ℕ × ℕ)) : Type 0 where
  pub goal : GoalPassesWeights task known weights
  pub next : (a : ℕ) → a < length task.actions → PassesWeights known weights (action task a)
