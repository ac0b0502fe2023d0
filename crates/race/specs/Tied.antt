-- How the race in code shows the race of the definition.
use Rattle.std.specs.Prelude.{◌≡◌, ℕ, ◌≤◌, ◌<◌, map}
use Rattle.std.specs.List.{AllByRecursion}
use Rattle.race_outcome.specs.declared.end.RaceEnd.{RaceEnd}
use Rattle.race_outcome.specs.Ends.{line_view, end_view, lines_of}
use Rattle.race.specs.declared.racing.Racing.{Racing}
use Rattle.race.specs.declared.racing.Step.{Step}
use Rattle.race.specs.declared.racing.Step.TheVariants.{On as OnStep, End as EndStep}
use Rattle.race.specs.Input.{RaceInput}
use Rattle.race.specs.State.{RaceState, spent}
use Rattle.race.specs.Race.{Stage, On, Ended, last_started, after_rounds}
use Rattle.race.specs.Lines.{AreLines}
use Rattle.race.specs.Ends.{WherePlanned, AreStepsOf, SumsWithin}
use Rattle.race.specs.Runs.{live_run_of, horizon_of, IsRunOf, AreLow}

-- the race that the code is in
abbrev pub race_state : Racing → RaceState
race_state racing = record { live = map live_run_of racing.runs.items; next = racing.window.next; closed = map line_view racing.lines.items }

-- window, ledger, runs and lines fit together, and are those of a race on this input
pub record IsTied (input : RaceInput) (racing : Racing) : Type 0 where
  pub rates : racing.window.rates ≡ input.rates
  pub live : racing.window.live ≡ map horizon_of racing.runs.items
  pub last : racing.last ≡ last_started input (race_state racing)
  pub budget : racing.ledger.budget ≡ input.budget
  pub aside : racing.ledger.set_aside ≡ 0
  pub spent : racing.ledger.spent ≡ spent (race_state racing)
  pub within : racing.ledger.spent ≤ input.budget
  pub small : input.budget ≤ 1000000
  pub runs : AllByRecursion (IsRunOf input) racing.runs.items
  pub lines : AreLines input racing.lines.items

-- a race between two rounds stands where so many rounds have it: each of them spent at least one conflict
pub record IsBetween (input : RaceInput) (racing : Racing) : Type 0 where
  pub tied : IsTied input racing
  pub low : AreLow racing.runs.items
  pub after : after_rounds input racing.rounds ≡ On (race_state racing)
  pub few : racing.rounds ≤ racing.ledger.spent

-- ledger, lines and rounds are as they were
pub record KeepsBooks (old new : Racing) : Type 0 where
  pub ledger : new.ledger ≡ old.ledger
  pub lines : new.lines ≡ old.lines
  pub rounds : new.rounds ≡ old.rounds

-- a race that goes on stands at a stage
pub record GoesOn (input : RaceInput) (racing : Racing) (stage : Stage) : Type 0 where
  pub on : stage ≡ On (race_state racing)
  pub tied : IsTied input racing
  pub low : AreLow racing.runs.items

-- a race that ended has the end of a stage, and what its lines and its plan say is so
pub record Ends (input : RaceInput) (end : RaceEnd) (stage : Stage) : Type 0 where
  pub told : stage ≡ Ended (end_view end)
  pub lines : AreLines input (lines_of end)
  pub sums : SumsWithin input.budget end
  pub modelled : WherePlanned end (AreStepsOf input)

-- the step that the code is at shows this stage of the defined race
abbrev pub Stands : RaceInput → Step → Stage → Type 0
Stands input (OnStep racing) stage = GoesOn input racing stage
Stands input (EndStep end) stage = Ends input end stage

-- a race that goes on has spent more than so much
abbrev pub SpendsMore : ℕ → Step → Type 0
SpendsMore n (OnStep racing) = n < racing.ledger.spent
SpendsMore n (EndStep end) = Unit {0}

-- a race that goes on has ended so many rounds
abbrev pub HasEnded : ℕ → Step → Type 0
HasEnded n (OnStep racing) = racing.rounds ≡ n
HasEnded n (EndStep end) = Unit {0}
