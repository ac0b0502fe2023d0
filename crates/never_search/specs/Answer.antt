-- What a search answers.
use Rattle.std.specs.Prelude.{◌≡◌, ℕ, ◌*◌, ◌<◌, ◌≤◌, List, length}
use Rattle.std.specs.List.{AllByRecursion}
use Rattle.containers.specs.Limits.{certificate_bytes}
use Rattle.gt_core.specs.Task.{Task}
use Rattle.gt_core.specs.Laws.{IsRunToGoal}
use Rattle.never_defs.specs.Backward.{IsBackwardCertificate}
use Rattle.never_text.specs.Laws.{IsAsRead}
use Rattle.never_search.specs.declared.answer.End.{End}
use Rattle.never_search.specs.declared.answer.End.TheVariants.{Set, Plan, Open}
use Rattle.never_search.specs.declared.answer.Answer.{Answer}

-- clauses over the facts of a task, not too many and each as it is read, that pass the check of a backward set
pub record IsSet (task : Task) (known : List (ℕ × ℕ)) (clauses : List (List ℕ)) : Type 0 where
  pub passes : IsBackwardCertificate task known clauses
  pub few : length clauses ≤ certificate_bytes
  pub over : AllByRecursion (AllByRecursion (λ l. l < 2 * task.facts)) clauses
  pub as_read : AllByRecursion (IsAsRead task.facts) clauses

-- something was found: such clauses, or actions that run to the goal
abbrev pub IsFound : Task → List (ℕ × ℕ) → End → Type 0
IsFound task known (Set clauses) = IsSet task known clauses
IsFound task known (Plan actions) = IsRunToGoal task actions.items
IsFound task known Open = ⊥

-- how a search that takes so many obligations at most ended: something was found, or as many were taken
abbrev pub IsEnd : Task → List (ℕ × ℕ) → (budget taken : ℕ) → End → Type 0
IsEnd task known budget taken (Set clauses) = IsSet task known clauses
IsEnd task known budget taken (Plan actions) = IsRunToGoal task actions.items
IsEnd task known budget taken Open = taken ≡ budget

-- an answer of a search that takes so many obligations at most
pub record IsAnswer (task : Task) (known : List (ℕ × ℕ)) (budget : ℕ) (a : Answer) : Type 0 where
  pub taken : a.obligations ≤ budget
  pub ends : IsEnd task known budget a.obligations a.end
