-- What it means that a race is exhausted.
use Rattle.std.specs.Prelude.{◌≡◌, ℕ, List, Contains}
use Rattle.horizon_rates.specs.Horizons.{IsLastListed}
use Rattle.race_outcome.specs.Ends.{WordRefuted, LineView}
use Rattle.race.specs.Input.{RaceInput}

-- the horizon is the last listed one, and a line tells it as refuted
pub record LastRefuted (input : RaceInput) (horizon : ℕ) (lines : List LineView) : Type 0 where
  pub listed_last : IsLastListed input.rates horizon
  pub line : LineView
  pub told : Contains lines line
  pub horizon_is : line.horizon ≡ horizon
  pub refuted : line.word ≡ WordRefuted
