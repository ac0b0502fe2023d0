-- What each part of a batch comes to.
use Rattle.std.specs.Prelude.{◌≡◌, ◌+◌, ◌≤◌, ℕ, List, [], ◌∷◌, length, Option, Some, None, Result, Ok, Err, IfSome, ◌-◌, false, IsTrue}
use Rattle.std.specs.List.{AllZip}
use Rattle.horizon_rates.specs.declared.settings.Settings.{Settings}
use Rattle.race_outcome.specs.declared.end.RaceEnd.{RaceEnd}
use Rattle.race.specs.declared.error.RaceError.{RaceError}
use Rattle.race.specs.declared.error.RaceError.TheVariants as errors
use Rattle.step_laws.specs.Form.{OrderedTask}
use Rattle.poll_batch.specs.View.{RaceView}
use Rattle.commands.specs.Known.{form_of}
use Rattle.formula_defs.specs.Variables.{chain_places}
use Rattle.gt_core.specs.Step.{IsStepPlan}
use Rattle.requests.specs.Seen.{Seen, batches, numbers}
use Rattle.requests.specs.declared.request.Stepping.TheVariants.{Exists}
use Rattle.requests.specs.declared.request.Turns.{Turns}
use Rattle.requests.specs.declared.request.Turns.TheVariants as turnings
use Rattle.plan_endings.specs.Ending.{batch_of}
use Rattle.plan_endings.specs.declared.ending.Ending.{Ending}
use Rattle.plan_endings.specs.declared.ending.Ending.TheVariants.{TooLong}
use Rattle.plan_endings.specs.declared.ending.File.TheVariants.{Domain, Problem}
use Rattle.containers.specs.Limits.{most_bytes}
use Rattle.commands.specs.Tasks.{AreTask, IsReady, IsReading, OnceGrounded}
use Rattle.commands.specs.Raced.{IsKnown, ComesTo, IsTooLarge}
use Rattle.commands.specs.Answers.{AnswersPlan}
use Rattle.plan_top.specs.declared.parts.Part.{Part}
use Rattle.plan_top.specs.declared.parts.Part.TheVariants as parts
use Rattle.plan_top.specs.declared.parts.Run.{Run}
use Rattle.plan_tasks.specs.declared.task.Reading.{Reading}
use Rattle.plan_tasks.specs.declared.task.Reading.TheVariants as readings
use Rattle.pd_sexp.specs.View.{view}
use Rattle.pd_sexp.specs.Word.{has_words}

-- at most 16 problems of a domain, with these settings, in these turns
abbrev pub IsBatch : Settings → Turns → Seen → Type 0
IsBatch settings turns request = (domain : List ℕ) × (problems : List (List ℕ)) × (request ≡ batches domain problems (numbers settings) turns) × (length problems ≤ 16)

-- the bytes are no more than may be, where they are no more than that
abbrev pub IsShort : Option (List ℕ) → Type 0
IsShort file = IfSome file (λ bytes. length bytes ≤ most_bytes)

-- What a domain and a problem come to for `plan`, of which each may have more bytes than it may.
abbrev pub AnswersPart : Settings → (domain problem : Option (List ℕ)) → Ending → Type 0
AnswersPart settings None problem end = end ≡ TooLong Domain
AnswersPart settings (Some first) None end = end ≡ TooLong Problem
AnswersPart settings (Some first) (Some second) end = OnceGrounded first second (AnswersPlan Exists settings) end

-- what a domain and problems come to: each problem, with the domain alone, has the part at its place
abbrev pub AnswersBatch : Settings → Option (List ℕ) → List (Option (List ℕ)) → Ending → Type 0
AnswersBatch settings domain problems end = (parts : List Ending) × AllZip (AnswersPart settings domain) problems parts × (end ≡ batch_of parts)

-- ---- before the races

-- what the domain is read as, if it has no more bytes than it may
abbrev pub IsFirst : Option (List ℕ) → Option Reading → Type 0
IsFirst None None = Unit {0}
IsFirst (Some bytes) (Some reading) = IsReading bytes reading
IsFirst _ _ = ⊥

-- a tree has its words
abbrev pub HasWords : Option Reading → Type 0
HasWords (Some (readings.Tree tree)) = IsTrue (has_words (view tree))
HasWords _ = Unit {0}

-- the problem has this ending, whatever the settings
abbrev pub EndsAlone : (domain problem : Option (List ℕ)) → Ending → Type 0
EndsAlone domain problem end = (settings : Settings) → AnswersPart settings domain problem end

-- the domain and the problem are this task, which is ready for a race
abbrev pub IsRunOf : (domain problem : Option (List ℕ)) → Run → Type 0
IsRunOf (Some first) (Some second) run = AreTask first second run.ready.task × IsReady run.ready.task run.ready.grounded × IsKnown run.ready.grounded.task run.known
IsRunOf _ _ run = ⊥

-- what stands for a problem before the races: its ending, or a race that is ready
abbrev pub IsPart : (domain problem : Option (List ℕ)) → Part → Type 0
IsPart domain problem (parts.Ends end) = EndsAlone domain problem end
IsPart domain problem (parts.Runs run) = IsRunOf domain problem run

-- each problem has its ending, or the next of the runs
abbrev pub ArePrepared : Option (List ℕ) → List (Option (List ℕ)) → List (Option Ending) → List Run → Type 0
ArePrepared domain [] [] [] = Unit {0}
ArePrepared domain (problem ∷ problems) (Some end ∷ ended) runs = EndsAlone domain problem end × ArePrepared domain problems ended runs
ArePrepared domain (problem ∷ problems) (None ∷ ended) (run ∷ runs) = IsRunOf domain problem run × ArePrepared domain problems ended runs
ArePrepared domain _ _ _ = ⊥

-- a run is ready for its race, and what is known of its task is so
abbrev pub IsSound : Run → Type 0
IsSound run = IsReady run.ready.task run.ready.grounded × IsKnown run.ready.grounded.task run.known

-- ---- the races

-- the form of a run
abbrev pub IsFormOf : Run → OrderedTask → Type 0
IsFormOf run form = IsKnown run.ready.grounded.task run.known × (form ≡ form_of run.ready.grounded.task run.known.pairs.clauses run.known.order)

-- the race of a run, which was not polled yet
pub record IsRaceOf (settings : Settings) (run : Run) (race : RaceView OrderedTask) : Type 0 where
  pub form : IsFormOf run race.form
  pub rates : race.settings.rates ≡ settings.rates
  pub budget : race.settings.budget ≡ settings.budget
  pub live : race.given ≡ false

-- the place of this turn among so many
abbrev pub turn_at : Turns → ℕ → ℕ → ℕ
turn_at turnings.Forward count turn = turn
turn_at turnings.Backward count turn = count - (turn + 1)

-- ---- after them

-- what the race of a run came to
abbrev pub CameTo : Settings → Run → Result RaceEnd RaceError → Type 0
CameTo settings run (Ok end) = ComesTo chain_places IsStepPlan run.ready.grounded.task settings end
CameTo settings run (Err (errors.Literals horizon count)) = IsTooLarge chain_places run.ready.grounded.task settings horizon count
CameTo settings run (Err errors.Memory) = Unit {0}

-- how a run ends
abbrev pub AnswersRun : Settings → Run → Ending → Type 0
AnswersRun settings run end = AnswersPlan Exists settings run.ready.task run.ready.grounded end

-- how many problems have no ending yet
abbrev pub open_in : List (Option Ending) → ℕ
open_in [] = 0
open_in (Some end ∷ ended) = open_in ended
open_in (None ∷ ended) = open_in ended + 1

-- the endings, and in each place that has none the next of the others
abbrev pub woven : List (Option Ending) → List Ending → List Ending
woven [] others = []
woven (Some end ∷ ended) others = end ∷ woven ended others
woven (None ∷ ended) [] = []
woven (None ∷ ended) (other ∷ others) = other ∷ woven ended others
