-- A polled race as contracts see it.
use Rattle.std.specs.Prelude.{◌≡◌, ℕ, Bool, List, Result}
use Rattle.gt_core.specs.Task.{Task}
use Rattle.horizon_rates.specs.declared.settings.Settings.{Settings}
use Rattle.step_encoding.specs.declared.form.StepForm.{Ghosts}
use Rattle.race_outcome.specs.declared.end.RaceEnd.{RaceEnd}
use Rattle.race_outcome.specs.Ends.{LineView}
use Rattle.race.specs.declared.error.RaceError.{RaceError}
use Rattle.race.specs.Begun.{Gives as RaceGives}
use Rattle.race.specs.Input.{RaceInput, input_of}
use Rattle.race.specs.Race.{On, after_rounds}
use Rattle.race.specs.State.{RaceState, spent}
use Rattle.horizon_run.specs.Run.{RunView}
use Rattle.poll_run.specs.Polls.{Polling}
use Rattle.poll_batch.specs.own.Numbers.{Numbers}

-- what it is about, by what it is run, how far it is, the runs of the round that are polled yet with the one at hand first, the conflicts that its ledger has as spent, the lines of the horizons that
-- are live no more, and whether its end was given
pub record RaceView (F : Type 0) : Type 0 where
  pub task : Task
  pub form : F
  pub settings : Settings
  pub stage : Numbers
  pub runs : List (Polling RunView)
  pub spent : ℕ
  pub lines : List LineView
  pub given : Bool

module _ {F : Type 0} (g : Ghosts F) where
  -- what the defined race is run on
  abbrev pub input_in : RaceView F → RaceInput
  input_in race = input_of g race.form race.settings

  -- its ledger and its lines are those of the defined race after as many rounds as ended
  pub record Stands (race : RaceView F) : Type 0 where
    pub state : RaceState
    pub after : after_rounds (input_in race) race.stage.ended ≡ On state
    pub ledger : race.spent ≡ spent state
    pub closed : race.lines ≡ state.closed

  -- what the future may give
  abbrev pub Gives : RaceView F → Result RaceEnd RaceError → Type 0
  Gives race result = RaceGives g race.form race.settings result
