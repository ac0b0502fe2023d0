-- A race within a round, whose runs are out.
use Rattle.std.specs.Prelude.{◌≡◌, ℕ, ◌+◌, ◌-◌, ◌≤◌, ◌<◌, List, None, length, map, Result, MatchResult}
use Rattle.horizon_rates.specs.declared.settings.Settings.{Settings}
use Rattle.horizon_rates.specs.Ledger.{left_of, SumsToBudget}
use Rattle.step_encoding.specs.declared.form.StepForm.{Ghosts}
use Rattle.step_encoding.specs.Limits.{planner_literals}
use Rattle.step_encoding.specs.Numbers.{literals_of}
use Rattle.horizon_run.specs.Run.{RunView}
use Rattle.race_outcome.specs.declared.end.RaceEnd.{RaceEnd}
use Rattle.race_outcome.specs.Ends.{end_view, line_view, lines_of}
use Rattle.race.specs.declared.begun.Begun.{Begun}
use Rattle.race.specs.declared.error.RaceError.{RaceError}
use Rattle.race.specs.declared.error.RaceError.TheVariants as errors
use Rattle.race.specs.declared.racing.Racing.{Racing}
use Rattle.race.specs.declared.racing.Step.{Step}
use Rattle.race.specs.declared.racing.Step.TheVariants.{On as OnStep, End as EndStep}
use Rattle.race.specs.Ends.{WherePlanned, AreActions, AreStepsOf, SumsWithin}
use Rattle.race.specs.Grants.{grants, advanced}
use Rattle.race.specs.Input.{RaceInput, input_of}
use Rattle.race.specs.Lines.{AreLines, EachRefuted}
use Rattle.race.specs.Race.{On, Ended, TooLarge, judged, round, race_of, after_rounds}
use Rattle.race.specs.Runs.{live_run_of, total, moved_all, conflicts_of, AreLow}
use Rattle.race.specs.Starts.{too_large}
use Rattle.race.specs.State.{RaceState, spent}
use Rattle.race.specs.Tied.{race_state, IsTied, IsBetween}

-- the race with these runs
abbrev pub race_after : Begun → List RunView → RaceState
race_after begun runs = record { live = map live_run_of runs; next = begun.window.next; closed = map line_view begun.lines.items }

-- what each run may use was set aside, and the runs went out
pub record IsGranted (input : RaceInput) (racing : Racing) (runs : List RunView) (gs : List ℕ) (begun : Begun) : Type 0 where
  pub runs_are : runs ≡ racing.runs.items
  pub grants_are : gs ≡ grants input.rates 0 (left_of racing.ledger) (length racing.runs.items)
  pub window : begun.window ≡ racing.window
  pub last : begun.last ≡ racing.last
  pub lines : begun.lines ≡ racing.lines
  pub rounds : begun.rounds ≡ racing.rounds
  pub ledger : begun.ledger ≡ record racing.ledger { set_aside = racing.ledger.set_aside + total gs }
  pub granted : begun.granted ≡ left_of racing.ledger - left_of begun.ledger
  pub used : begun.used ≡ conflicts_of racing.runs.items
  pub sums : SumsToBudget racing.ledger
  pub sums_now : SumsToBudget begun.ledger
  pub few : length runs ≤ 16

-- a round began with these runs and grants: `racing` is the race once all had started that may start, and `since` how it stood
-- before the round
pub record IsBegun (input : RaceInput) (runs : List RunView) (gs : List ℕ) (begun : Begun) : Type 0 where
  pub racing : Racing
  pub tied : IsTied input racing
  pub low : AreLow racing.runs.items
  pub startable : too_large input (race_state racing) ≡ None
  pub out : IsGranted input racing runs gs begun
  pub since : RaceState
  pub after : after_rounds input begun.rounds ≡ On since
  pub closed : map line_view begun.lines.items ≡ since.closed
  pub spent : begun.ledger.spent ≡ spent since
  pub few : begun.rounds ≤ begun.ledger.spent
  pub comes : round input since ≡ judged input (advanced input (race_state racing))

-- its runs are back, each advanced by its grant
pub record HasRun (input : RaceInput) (begun : Begun) (runs : List RunView) : Type 0 where
  pub first : List RunView
  pub gs : List ℕ
  pub began : IsBegun input first gs begun
  pub moved : runs ≡ moved_all first gs

-- a horizon whose formula is too large, while none is live
abbrev pub TellsLarge : RaceInput → RaceError → Type 0
TellsLarge input (errors.Literals h count) = (race_of input ≡ TooLarge h) × (count ≡ literals_of (input.formula h)) × (planner_literals < count)
TellsLarge input errors.Memory = Unit {0}

module _ {F : Type 0} (g : Ghosts F) (form : F) (settings : Settings) where
  -- the end of a race over a form, with all that it says
  pub record IsEndOf (end : RaceEnd) : Type 0 where
    pub gives : race_of (input_of g form settings) ≡ Ended (end_view end)
    pub lines : AreLines (input_of g form settings) (lines_of end)
    pub refuted : EachRefuted (λ h. (steps : List (List ℕ)) → g.is_plan form h steps → ⊥) (lines_of end)
    pub sums : SumsWithin settings.budget end
    pub modelled : WherePlanned end (AreStepsOf (input_of g form settings))
    pub plan : WherePlanned end (g.is_plan form)
    pub long : WherePlanned end (λ h steps. length steps ≡ h)
    pub members : WherePlanned end (λ h steps. AreActions (g.task form) steps)

  -- what a round leads to: a race after so many rounds, or the end of the race
  abbrev pub Comes : ℕ → Step → Type 0
  Comes rounds (OnStep racing) = IsBetween (input_of g form settings) racing × (racing.rounds ≡ rounds)
  Comes rounds (EndStep end) = IsEndOf end

  -- what a race over a form may come to: its end with all that it says, the horizon that is too large, or want of memory
  abbrev pub Gives : Result RaceEnd RaceError → Type 0
  Gives result = MatchResult result IsEndOf (TellsLarge (input_of g form settings))
