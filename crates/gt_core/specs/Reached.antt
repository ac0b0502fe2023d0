-- What holds in the states that sequences of actions reach from the initial one.
use Rattle.std.specs.Prelude.{◌≡◌, ℕ, List, Bool, map}
use Rattle.gt_core.specs.Literal.{range}
use Rattle.gt_core.specs.Task.{Task, initial_state}
use Rattle.gt_core.specs.Execution.{CanRun, run}
use Rattle.gt_core.specs.Interference.{Knows}

-- each of these clauses holds in every state that a sequence of actions reaches from the initial one
abbrev pub HoldsWherever : Task → List (ℕ × ℕ) → Type 0
HoldsWherever task clauses =
    (ks : List ℕ) → CanRun task (initial_state task) ks → Knows clauses (run task (initial_state task) ks)

-- a state, a truth value a fact, that actions lead to which run one after the other from the initial state
pub record IsReached (task : Task) (s : List Bool) : Type 0 where
  pub actions : List ℕ
  pub runs : CanRun task (initial_state task) actions
  pub leads : s ≡ map (run task (initial_state task) actions) (range task.facts)
