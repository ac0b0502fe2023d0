-- The race of horizons, as a function: its stage after so many rounds, and its end (after Rintanen, Heljanko and Niemelä 2006).
use Rattle.std.specs.Prelude.{ℕ, zero, suc, ◌+◌, ◌-◌, ◌==◌, [], ◌∷◌, Bool, false, not, Some, None, is_some, if◌then◌else◌}
use Rattle.horizon_rates.specs.Horizons.{listed, horizon_at}
use Rattle.horizon_run.specs.Run.{truths_of}
use Rattle.race_outcome.specs.Ends.{EndView, Planned, Exhausted, Unfinished}
use Rattle.race.specs.Input.{RaceInput}
use Rattle.race.specs.State.{RaceState, start, spent}
use Rattle.race.specs.Starts.{filled, too_large}
use Rattle.race.specs.Grants.{advanced}
use Rattle.race.specs.Found.{first_found, lines}
use Rattle.race.specs.Clears.{cleared}

-- how a race stands after a round: it goes on, it ended, or the formula of a horizon that is to start is too large while none is
-- live
pub data Stage : Type 0 where
  On : RaceState → Stage
  Ended : EndView → Stage
  TooLarge : ℕ → Stage

-- whether the last listed horizon is refuted: nothing is listed next, and no horizon is live
abbrev pub is_exhausted : RaceInput → RaceState → Bool
is_exhausted input race = elim race.live [ [] ↦ not (is_some (listed input.rates race.next)) | _ ∷ _ ↦ false ]

-- the horizon that was started last
abbrev pub last_started : RaceInput → RaceState → ℕ
last_started input race = horizon_at input.rates (race.next - 1)

-- with no found horizon, once the refuted ones are cleared away
unfoldable pub settled : RaceInput → RaceState → Stage
settled input race =
    if is_exhausted input race then Ended (Exhausted (last_started input race) (lines race))
    else if spent race == input.budget then Ended (Unfinished (lines race))
    else On race

-- once all are advanced: the least found horizon has the plan
unfoldable pub judged : RaceInput → RaceState → Stage
judged input race = elim (first_found race.live) [
  | Some r ↦ Ended (Planned r.horizon (input.steps r.horizon (truths_of (input.formula r.horizon) r.state)) (lines race))
  | None ↦ settled input (cleared race)
]

-- what a round makes of a race
unfoldable pub round : RaceInput → RaceState → Stage
round input race = elim (too_large input (filled input race)) [ Some h ↦ TooLarge h | None ↦ judged input (advanced input (filled input race)) ]

-- a race that ended stays
abbrev pub next_stage : RaceInput → Stage → Stage
next_stage input (On race) = round input race
next_stage input (Ended end) = Ended end
next_stage input (TooLarge h) = TooLarge h

-- the stage of the race after so many rounds
unfoldable pub after_rounds : RaceInput → ℕ → Stage
after_rounds input zero = On start
after_rounds input (suc r) = next_stage input (after_rounds input r)

-- the end of a race: each round that does not end it spends a conflict, so there are at most so many rounds as the budget and
-- one more
abbrev pub race_of : RaceInput → Stage
race_of input = after_rounds input (input.budget + 1)
