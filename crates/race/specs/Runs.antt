-- The runs of a race, as the code has them: those of the live horizons, and the jobs that workers are given.
use Rattle.std.specs.Prelude.{◌≡◌, ℕ, false, ◌+◌, ◌-◌, ◌≤◌, List, [], ◌∷◌, length, map}
use Rattle.std.specs.List.{AllByRecursion}
use Rattle.std.specs.List.Sorted.{IsStrictlyIncreasing}
use Rattle.cdcl_defs.specs.declared.standing.Standing.TheVariants.{Found, Refuted}
use Rattle.solver_pool.specs.Job.{JobView}
use Rattle.step_encoding.specs.Limits.{planner_literals}
use Rattle.step_encoding.specs.Numbers.{literals_of}
use Rattle.horizon_run.specs.Run.{RunView, choice_in, moved_to, IsMoved, IsReached}
use Rattle.race.specs.Input.{RaceInput}
use Rattle.race.specs.State.{LiveRun}
use Rattle.horizon_rates.specs.Limits.{last_horizon}

-- a run as the definition sees it
abbrev pub live_run_of : RunView → LiveRun
live_run_of run = record { horizon = run.formula.name; target = run.granted; state = run.state }

-- the horizon of a run
abbrev pub horizon_of : RunView → ℕ
horizon_of run = run.formula.name

-- a run is that of its horizon in a race
pub record IsRunOf (input : RaceInput) (run : RunView) : Type 0 where
  pub chosen : input.choose run.formula.name ≡ choice_in run
  pub formula : input.formula run.formula.name ≡ run.formula
  pub low : run.formula.name ≤ last_horizon
  pub small : literals_of run.formula ≤ planner_literals
  pub moved : IsMoved run
  pub reached : (k : ℕ) → IsReached (choice_in run) run.formula k

-- what is granted in all
abbrev pub total : List ℕ → ℕ
total [] = 0
total (n ∷ ns) = n + total ns

-- the conflicts of runs together
abbrev pub conflicts_of : List RunView → ℕ
conflicts_of [] = 0
conflicts_of (r ∷ rs) = r.state.conflicts + conflicts_of rs

-- each run advanced by its grant
abbrev pub moved_all : List RunView → List ℕ → List RunView
moved_all [] gs = []
moved_all (r ∷ rs) [] = r ∷ rs
moved_all (r ∷ rs) (g ∷ gs) = moved_to r (r.granted + g) ∷ moved_all rs gs

-- a job for each run, up to what it was granted before and now
abbrev pub jobs_at : List RunView → List ℕ → List (JobView RunView)
jobs_at [] gs = []
jobs_at (r ∷ rs) [] = []
jobs_at (r ∷ rs) (g ∷ gs) = record { run = r; target = r.granted + g } ∷ jobs_at rs gs

-- the run of a job at its target
abbrev pub run_at : JobView RunView → RunView
run_at j = moved_to j.run j.target

-- there is one grant for each run, and no run gets too many
abbrev pub Fits : List RunView → List ℕ → Type 0
Fits [] [] = Unit {0}
Fits [] (g ∷ gs) = ⊥
Fits (r ∷ rs) [] = ⊥
Fits (r ∷ rs) (g ∷ gs) = (r.granted + g ≤ 1073741824) × Fits rs gs

-- runs with their grants may be advanced, each by its own
pub record MayAdvance (runs : List RunView) (gs : List ℕ) : Type 0 where
  pub fits : Fits runs gs
  pub few : length runs ≤ 16
  pub rising : IsStrictlyIncreasing (map horizon_of runs)
  pub sound : AllByRecursion (λ run. run.spoilt ≡ false) runs

-- a run before a round: it has not been granted too much, and is not refuted
pub record IsLow (run : RunView) : Type 0 where
  pub granted : run.granted ≤ 1000000
  pub unrefuted : run.state.standing ≡ Refuted → ⊥

-- no run was granted more than a budget may be, and none is refuted
abbrev pub AreLow : List RunView → Type 0
AreLow runs = AllByRecursion IsLow runs

-- no run is found
abbrev pub AreUnfound : List RunView → Type 0
AreUnfound runs = AllByRecursion (λ run. run.state.standing ≡ Found → ⊥) runs

-- what a round granted is set aside, and its runs used no more
pub record IsBooked (set_aside granted before after : ℕ) : Type 0 where
  pub rose : before ≤ after
  pub within : after - before ≤ granted
  pub few : granted ≤ 1000000
  pub aside : set_aside ≡ granted
