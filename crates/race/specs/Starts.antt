-- How a round begins: the window takes the next listed horizons, as long as there is a free place, the list goes on and the
-- formula is not too large.
use Rattle.std.specs.Prelude.{ℕ, zero, suc, ◌+◌, ◌-◌, [], ◌∷◌, ◌++◌, length, Option, Some, None, if◌then◌else◌, nat_le}
use Rattle.step_encoding.specs.Limits.{planner_literals}
use Rattle.step_encoding.specs.Numbers.{literals_of}
use Rattle.horizon_rates.specs.Horizons.{listed}
use Rattle.race.specs.Input.{RaceInput}
use Rattle.race.specs.State.{RaceState, live_at}

-- a horizon whose formula has no more literals than the planner takes
abbrev pub fitting : RaceInput → Option ℕ → Option ℕ
fitting input None = None
fitting input (Some h) = if nat_le (literals_of (input.formula h)) planner_literals then Some h else None

-- the race with this horizon live
abbrev pub started : RaceInput → ℕ → RaceState → RaceState
started input h race = record race { live = race.live ++ live_at input h 0 ∷ []; next = race.next + 1 }

-- with so many free places
abbrev pub fill : RaceInput → ℕ → RaceState → RaceState
fill input zero race = race
fill input (suc n) race = elim (fitting input (listed input.rates race.next)) [ Some h ↦ fill input n (started input h race) | None ↦ race ]

-- the race once listed horizons started in its free places
unfoldable pub filled : RaceInput → RaceState → RaceState
filled input race = fill input (input.rates.width - length race.live) race

-- with no live horizon the next listed one is too large
abbrev pub too_large : RaceInput → RaceState → Option ℕ
too_large input race = elim race.live [ [] ↦ listed input.rates race.next | _ ∷ _ ↦ None ]
