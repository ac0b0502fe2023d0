-- The check of a backward set: by what surely holds after an action, clause by clause and action by action.
use Rattle.std.specs.Prelude.{◌≡◌, ℕ, ◌<◌, List, [], ◌++◌, map, Bool, true, false, length}
use Rattle.std.specs.List.{list_any, AllByRecursion}
use Rattle.gt_core.specs.Literal.{opposite, is_in}
use Rattle.gt_core.specs.Task.{Action, Task, action, initial_state}
use Rattle.gt_core.specs.Interference.{action_may_make}
use Rattle.implied_literals.specs.Rows.{HasNoPair}
use Rattle.never_defs.specs.Sets.{AreTrue}
use Rattle.never_defs.specs.Propagation.{IsPropagated, IsRefuted}
use Rattle.never_defs.specs.After.{holds_surely}

-- an effect of an action has a literal of a clause
abbrev pub may_satisfy : Action → List ℕ → Bool
may_satisfy x c = list_any (action_may_make x) c

-- an action passes at a clause: it makes no literal of it true, or, where the clause is false before it, what then surely holds
-- afterwards is refuted by the clauses of the set and those known
abbrev pub PassesBackward : List (ℕ × ℕ) → List (List ℕ) → Action → List ℕ → Type 0
PassesBackward known clauses x c =
    may_satisfy x c ≡ true
    → (set : ℕ → Bool) → IsPropagated known [] (is_in (x.precondition ++ map opposite c)) set → HasNoPair set
    → IsRefuted known clauses (holds_surely set x)

-- the goal passes at a clause: it is hopeless, or the clause cannot be false where it holds
abbrev pub GoalPassesBackward : Task → List (ℕ × ℕ) → List ℕ → Type 0
GoalPassesBackward task known c = task.hopeless ≡ false → IsRefuted known [] (is_in (task.goal ++ map opposite c))

-- the check of a backward set
pub record IsBackwardCertificate (task : Task) (known : List (ℕ × ℕ)) (clauses : List (List ℕ)) : Type 0 where
  pub initial : AreTrue (initial_state task) clauses → ⊥
  pub goal : AllByRecursion (GoalPassesBackward task known) clauses
  pub next : (a : ℕ) → a < length task.actions → AllByRecursion (PassesBackward known clauses (action task a)) clauses
