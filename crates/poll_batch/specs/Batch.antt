-- Races that are run in a batch.
use Rattle.std.specs.Prelude.{◌≡◌, ℕ, ◌<◌, nat_eq, count_by, List, Result}
use Rattle.std.specs.List.{All}
use Rattle.step_encoding.specs.declared.form.StepForm.{Ghosts}
use Rattle.race_outcome.specs.declared.end.RaceEnd.{RaceEnd}
use Rattle.race.specs.declared.error.RaceError.{RaceError}
use Rattle.race.specs.Begun.{Gives}
use Rattle.poll_batch.specs.View.{RaceView}
use Rattle.poll_batch.specs.declared.anew.Kept.{Kept}

-- each place of a list of so many items once
pub record IsOrder (n : ℕ) (turns : List ℕ) : Type 0 where
  pub within : All (λ t. t < n) turns
  pub once : (place : ℕ) → place < n → count_by (nat_eq place) turns ≡ 1

module _ {F : Type 0} (g : Ghosts F) where
  -- the form is one of the task
  abbrev pub IsFormed : Kept F → Type 0
  IsFormed kept = g.task kept.form.now ≡ kept.task.now

  -- what the race is about, and by what it is run
  abbrev pub IsKeptOf : RaceView F → Kept F → Type 0
  IsKeptOf race kept = (kept.form.now ≡ race.form) × (kept.settings ≡ race.settings)

  -- what a race that is run anew may come to
  abbrev pub KeptGives : Kept F → Result RaceEnd RaceError → Type 0
  KeptGives kept result = Gives g kept.form.now kept.settings result
