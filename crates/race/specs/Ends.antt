-- What the end of a race says.
use Rattle.std.specs.Prelude.{◌≡◌, ℕ, ◌≤◌, ◌<◌, List, Bool, length}
use Rattle.std.specs.List.{AllByRecursion}
use Rattle.gt_core.specs.Task.{Task}
use Rattle.clause_base.specs.Formula.{IsModel}
use Rattle.race_outcome.specs.declared.end.RaceEnd.{RaceEnd}
use Rattle.race_outcome.specs.declared.end.RaceEnd.TheVariants as ends
use Rattle.race_outcome.specs.Ends.{end_view, lines_in, conflicts_in}
use Rattle.race.specs.Input.{RaceInput}

-- a fact of the horizon and the steps of a plan
abbrev pub WherePlanned : RaceEnd → (ℕ → List (List ℕ) → Type 0) → Type 0
WherePlanned (ends.Plan h steps ls) P = P h steps
WherePlanned (ends.Exhausted h ls) P = Unit {0}
WherePlanned (ends.Unfinished ls) P = Unit {0}

-- the steps are those that some model of the horizon's formula stands for
abbrev pub AreStepsOf : RaceInput → ℕ → List (List ℕ) → Type 0
AreStepsOf input h steps = (values : List Bool) × IsModel (input.formula h) values × (steps ≡ input.steps h values)

-- the conflicts that an end's lines sum to
abbrev pub conflicts_of_end : RaceEnd → ℕ
conflicts_of_end end = conflicts_in (lines_in (end_view end))

-- they are at most the budget, and exactly the budget where the race is unfinished
abbrev pub SumsWithin : ℕ → RaceEnd → Type 0
SumsWithin budget (ends.Plan h steps ls) = conflicts_of_end (ends.Plan h steps ls) ≤ budget
SumsWithin budget (ends.Exhausted h ls) = conflicts_of_end (ends.Exhausted h ls) ≤ budget
SumsWithin budget (ends.Unfinished ls) = conflicts_of_end (ends.Unfinished ls) ≡ budget

-- the members of the steps are actions of the task
abbrev pub AreActions : Task → List (List ℕ) → Type 0
AreActions task steps = AllByRecursion (λ set. AllByRecursion (λ a. a < length task.actions) set) steps
