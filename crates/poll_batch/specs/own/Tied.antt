-- How a polled race shows the race of the definition.
use Rattle.std.specs.Prelude.{◌≡◌, ℕ, ⊤, List, [], ◌++◌, length, map, Bool, true, false}
use Rattle.horizon_rates.specs.declared.settings.Settings.{Settings}
use Rattle.step_encoding.specs.declared.form.StepForm.{Ghosts}
use Rattle.race_outcome.specs.Ends.{LineView, line_view}
use Rattle.horizon_run.specs.Run.{RunView}
use Rattle.poll_run.specs.Polls.{Polling}
use Rattle.race.specs.Begun.{HasRun, IsEndOf}
use Rattle.race.specs.Input.{RaceInput, input_of}
use Rattle.race.specs.Tied.{IsBetween}
use Rattle.poll_batch.specs.declared.round.Round.{Round}
use Rattle.poll_batch.specs.declared.phase.Phase.{Phase}
use Rattle.poll_batch.specs.declared.phase.Phase.TheVariants as phases
use Rattle.poll_batch.specs.declared.phase.Next.{Next}
use Rattle.poll_batch.specs.declared.phase.Next.TheVariants as nexts
use Rattle.poll_batch.specs.own.Numbers.{Numbers, IsBelow}
use Rattle.poll_batch.specs.own.OnePoll.{DoesOne}
use Rattle.poll_batch.specs.own.Works.{at_targets, granted_now, polls_of, AreAtWork}

-- how far a race within a round is
abbrev pub numbers_of : Round → Numbers
numbers_of round = record { ended = round.begun.rounds; begun = 1; done = length round.done.items; granted = granted_now round.works.items }

-- how far a race is
abbrev pub numbers_at : Phase → Numbers
numbers_at (phases.Between racing) = record { ended = racing.rounds; begun = 0; done = 0; granted = 0 }
numbers_at (phases.Within round) = numbers_of round
numbers_at phases.Given = record { ended = 0; begun = 0; done = 0; granted = 0 }

-- the conflicts that its ledger has as spent
abbrev pub spent_at : Phase → ℕ
spent_at (phases.Between racing) = racing.ledger.spent
spent_at (phases.Within round) = round.begun.ledger.spent
spent_at phases.Given = 0

-- the lines of the horizons that are live no more
abbrev pub lines_at : Phase → List LineView
lines_at (phases.Between racing) = map line_view racing.lines.items
lines_at (phases.Within round) = map line_view round.begun.lines.items
lines_at phases.Given = []

-- the runs of the round that are polled yet, the first of them at hand
abbrev pub runs_at : Phase → List (Polling RunView)
runs_at (phases.Between racing) = []
runs_at (phases.Within round) = polls_of round.works.items
runs_at phases.Given = []

-- the end of the race was handed out
abbrev pub is_given : Phase → Bool
is_given (phases.Between racing) = false
is_given (phases.Within round) = false
is_given phases.Given = true

-- once its runs are at their targets, they are those of the round that began
pub record IsWithin (slice : ℕ) (input : RaceInput) (round : Round) : Type 0 where
  pub run : HasRun input round.begun (round.done.items ++ at_targets round.works.items)
  pub work : AreAtWork slice round.works.items

-- a race wherever it is; nothing is known of one whose end was given
abbrev pub IsTied : ℕ → RaceInput → Phase → Type 0
IsTied slice input (phases.Between racing) = IsBetween input racing
IsTied slice input (phases.Within round) = IsWithin slice input round
IsTied slice input phases.Given = ⊤

-- one poll: the race goes on and is further by one of three things, or a round ends and with it the race
abbrev pub Follows : {F : Type 0} → Ghosts F → F → Settings → Phase → Next → Type 0
Follows g form settings before (nexts.On after) = IsTied settings.slice (input_of g form settings) after × (is_given after ≡ false) × IsBelow (numbers_at before) (numbers_at after)
    × DoesOne settings.slice (numbers_at before) (numbers_at after) (runs_at before) (runs_at after)
Follows g form settings before (nexts.End end) = IsEndOf g form settings end × (runs_at before ≡ []) × ((numbers_at before).begun ≡ 1)
