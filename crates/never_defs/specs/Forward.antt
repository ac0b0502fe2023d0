-- The check of a forward set: by unit propagation, clause by clause and action by action.
use Rattle.std.specs.Prelude.{◌≡◌, ℕ, ◌<◌, List, ◌++◌, Bool, true, false, length}
use Rattle.std.specs.List.{list_any, AllByRecursion}
use Rattle.gt_core.specs.Literal.{opposite, is_in}
use Rattle.gt_core.specs.Task.{Action, Task, action, initial_state}
use Rattle.gt_core.specs.Interference.{action_may_make}
use Rattle.never_defs.specs.Sets.{AreTrue}
use Rattle.never_defs.specs.Propagation.{IsRefuted}
use Rattle.never_defs.specs.Cases.{Case, cases_of}

-- an effect of an action has the opposite of a literal of a clause
abbrev pub may_falsify : Action → List ℕ → Bool
may_falsify x c = list_any (λ l. action_may_make x (opposite l)) c

-- a case is refuted: from the precondition, its literals and its clauses, the clauses of the set and those known
abbrev pub IsCaseRefuted : List (ℕ × ℕ) → List (List ℕ) → Action → Case → Type 0
IsCaseRefuted known clauses x q = IsRefuted known (q.clauses ++ clauses) (is_in (x.precondition ++ q.literals))

-- an action passes at a clause: it makes no literal of it false, or each case in which the clause is false afterwards is refuted
abbrev pub PassesForward : List (ℕ × ℕ) → List (List ℕ) → Action → List ℕ → Type 0
PassesForward known clauses x c = may_falsify x c ≡ true → AllByRecursion (IsCaseRefuted known clauses x) (cases_of x c)

-- the goal passes: it is hopeless, or its literals with the clauses are refuted
abbrev pub GoalPassesForward : Task → List (ℕ × ℕ) → List (List ℕ) → Type 0
GoalPassesForward task known clauses = task.hopeless ≡ false → IsRefuted known clauses (is_in task.goal)

-- the check of a forward set
pub record IsForwardCertificate (task : Task) (known : List (ℕ × ℕ)) (clauses : List (List ℕ)) : Type 0 where
  pub initial : AreTrue (initial_state task) clauses
  pub goal : GoalPassesForward task known clauses
  pub next : (a : ℕ) → a < length task.actions → AllByRecursion (PassesForward known clauses (action task a)) clauses
