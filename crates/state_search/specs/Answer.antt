-- What a walk through the states of a task answers.
use Rattle.std.specs.Prelude.{◌≡◌, ℕ, ◌≤◌, List, Bool, Some, length, slice_get}
use Rattle.gt_core.specs.Task.{Task}
use Rattle.gt_core.specs.Laws.{IsRunToGoal, HasNoRun}
use Rattle.state_store.specs.Distinct.{AreDistinct}
use Rattle.gt_core.specs.Reached.{IsReached}
use Rattle.state_search.specs.declared.answer.End.{End}
use Rattle.state_search.specs.declared.answer.End.TheVariants.{Plan, NoPlan, Unfinished}
use Rattle.state_search.specs.declared.answer.Answer.{Answer}

-- so many states: each is reached, and no two are equal
pub record AreEntered (task : Task) (count : ℕ) : Type 0 where
  pub states : List (List Bool)
  pub many : length states ≡ count
  pub reached : (k : ℕ) (s : List Bool) → slice_get states k ≡ Some s → IsReached task s
  pub distinct : AreDistinct states

-- each run to the goal has so many actions at least
abbrev pub HasNoShorter : Task → ℕ → Type 0
HasNoShorter task n = (ks : List ℕ) → IsRunToGoal task ks → n ≤ length ks

-- how a walk that enters so many states at most ended: a plan is a run to the goal; where there is none, no actions are; it is
-- unfinished only where as many states were entered
abbrev pub IsEnd : Task → ℕ → ℕ → End → Type 0
IsEnd task most states (Plan actions) = IsRunToGoal task actions
IsEnd task most states NoPlan = HasNoRun task
IsEnd task most states Unfinished = states ≡ most

-- the plan has no more actions than any run to the goal
abbrev pub IsLeast : Task → End → Type 0
IsLeast task (Plan actions) = HasNoShorter task (length actions)
IsLeast task NoPlan = Unit {0}
IsLeast task Unfinished = Unit {0}

-- an answer of a walk that enters so many states at most
pub record IsAnswer (task : Task) (most : ℕ) (a : Answer) : Type 0 where
  pub entered : AreEntered task a.states
  pub ends : IsEnd task most a.states a.end
