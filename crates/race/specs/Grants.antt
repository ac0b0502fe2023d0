-- Each live horizon is granted its quota, or what is left where that is less, in rising order, and is advanced by its grant. All
-- is granted before the use of any is booked.
use Rattle.std.specs.Prelude.{ℕ, zero, suc, ◌+◌, ◌-◌, min, List, [], ◌∷◌, length}
use Rattle.horizon_rates.specs.declared.rates.Rates.{Rates}
use Rattle.horizon_rates.specs.Quotas.{quota_at}
use Rattle.race.specs.Input.{RaceInput}
use Rattle.race.specs.State.{LiveRun, RaceState, live_at, spent}

-- the grants of n places, from a place on, where so much is left
abbrev pub grants : Rates → (place left n : ℕ) → List ℕ
grants rates place left zero = []
grants rates place left (suc n) = min (quota_at rates place) left ∷ grants rates (place + 1) (left - min (quota_at rates place) left) n

-- the live horizons once each was advanced by its grant
abbrev pub raised : RaceInput → List LiveRun → List ℕ → List LiveRun
raised input [] gs = []
raised input (r ∷ rs) [] = r ∷ rs
raised input (r ∷ rs) (g ∷ gs) = live_at input r.horizon (r.target + g) ∷ raised input rs gs

-- the race once each live horizon was advanced by its grant
unfoldable pub advanced : RaceInput → RaceState → RaceState
advanced input race = record race { live = raised input race.live (grants input.rates 0 (input.budget - spent race) (length race.live)) }
