-- A race between two rounds.
use Rattle.std.specs.Prelude.{ℕ, ◌+◌, List, [], ◌∷◌}
use Rattle.cdcl_defs.specs.State.{State}
use Rattle.horizon_run.specs.Run.{reached}
use Rattle.race_outcome.specs.Ends.{LineView, conflicts_in}
use Rattle.race.specs.Input.{RaceInput}

-- a live horizon: the conflicts that it was granted so far, and the state of its solver
pub record LiveRun : Type 0 where
  pub horizon : ℕ
  pub target : ℕ
  pub state : State

-- the live horizons, rising; the place in the list of the horizon that comes next; and the lines of the horizons that are live
-- no more, rising
pub record RaceState : Type 0 where
  pub live : List LiveRun
  pub next : ℕ
  pub closed : List LineView

-- a horizon that was granted so many conflicts: its state is the one after them from its start
abbrev pub live_at : RaceInput → (h target : ℕ) → LiveRun
live_at input h target = record { horizon = h; target = target; state = reached (input.choose h) (input.formula h) target }

-- before the first round
abbrev pub start : RaceState
start = record { live = []; next = 0; closed = [] }

-- the conflicts that live horizons have used
abbrev pub conflicts_used : List LiveRun → ℕ
conflicts_used [] = 0
conflicts_used (r ∷ rs) = r.state.conflicts + conflicts_used rs

-- the conflicts of all started horizons, which is what the ledger has as spent between two rounds
abbrev pub spent : RaceState → ℕ
spent race = conflicts_in race.closed + conflicts_used race.live
