-- What shows that no actions lead to the goal, however many: sets of clauses that actions keep, and weights that no action
-- raises. All is said of the states that the known clauses admit.
use Rattle.std.specs.Prelude.{◌≡◌, ℕ, ◌<◌, ◌≤◌, List, Bool, true, sum_by, if◌then◌else◌}
use Rattle.std.specs.List.{list_any, AllByRecursion}
use Rattle.gt_core.specs.Literal.{holds}
use Rattle.gt_core.specs.Task.{Task, initial_state}
use Rattle.gt_core.specs.Execution.{Runs, next_of_one, IsGoal}
use Rattle.gt_core.specs.Interference.{Knows}

-- A clause is a list of literals of facts.

-- a clause is true in a state: a literal of it holds
abbrev pub is_true_in : (ℕ → Bool) → List ℕ → Bool
is_true_in s c = list_any (holds s) c

-- each of these clauses is true in a state
abbrev pub AreTrue : (ℕ → Bool) → List (List ℕ) → Type 0
AreTrue s clauses = AllByRecursion (λ c. is_true_in s c ≡ true) clauses

-- an action runs in a state, and the known clauses hold before and after it
pub record IsKnownStep (task : Task) (known : List (ℕ × ℕ)) (s : ℕ → Bool) (a : ℕ) : Type 0 where
  pub runs : Runs task s a
  pub before : Knows known s
  pub after : Knows known (next_of_one task s a)

-- a forward set: its clauses are true in the initial state, each action keeps them, and no goal state has them all
pub record IsForwardSet (task : Task) (known : List (ℕ × ℕ)) (clauses : List (List ℕ)) : Type 0 where
  pub initial : AreTrue (initial_state task) clauses
  pub next : (s : ℕ → Bool) (a : ℕ) → IsKnownStep task known s a → AreTrue s clauses → AreTrue (next_of_one task s a) clauses
  pub goal : (s : ℕ → Bool) → Knows known s → AreTrue s clauses → IsGoal task s → ⊥

-- a backward set: the initial state has not all of its clauses, where an action leads to a state with all of them the state
-- before it had all of them, and each goal state has them all
pub record IsBackwardSet (task : Task) (known : List (ℕ × ℕ)) (clauses : List (List ℕ)) : Type 0 where
  pub initial : AreTrue (initial_state task) clauses → ⊥
  pub next : (s : ℕ → Bool) (a : ℕ) → IsKnownStep task known s a → AreTrue (next_of_one task s a) clauses → AreTrue s clauses
  pub goal : (s : ℕ → Bool) → Knows known s → IsGoal task s → AreTrue s clauses

-- Weights are literals, each with a number. A fact with a negative weight has its absolute value as the weight of the
-- literal that says that the fact is false: both sums differ by one number in all states.

-- the sum of the weights of the literals that pass a test
abbrev pub weight_of : (ℕ → Bool) → List (ℕ × ℕ) → ℕ
weight_of test weights = sum_by (λ w. if test w.0 then w.1 else 0) weights

-- the sum over the literals that hold in a state
abbrev pub weight_in : (ℕ → Bool) → List (ℕ × ℕ) → ℕ
weight_in s weights = weight_of (holds s) weights

-- weights of which no action raises the sum, and each goal state has a greater sum than the initial state
pub record AreWeights (task : Task) (known : List (ℕ × ℕ)) (weights : List (ℕ × ℕ)) : Type 0 where
  pub next : (s : ℕ → Bool) (a : ℕ) → IsKnownStep task known s a → weight_in (next_of_one task s a) weights ≤ weight_in s weights
  pub goal : (s : ℕ → Bool) → Knows known s → IsGoal task s → weight_in (initial_state task) weights < weight_in s weights
