-- The numbers in a command's matches are in their ranges.
use Rattle.std.specs.Prelude.{List, codes, ⊤}
use Rattle.clap.specs.Walk.{Row}
use Rattle.requests.specs.Passed.{HasNumber}
use Rattle.requests.specs.declared.command.Name.{Name}
use Rattle.requests.specs.declared.command.Name.TheVariants as name
use Rattle.horizon_rates.specs.Limits.{last_horizon}

-- Each number of a race's settings but its workers is in its range.
pub record HasNumbers (rows : List Row) : Type 0 where
  pub width : HasNumber 1 16 (codes "width") rows
  pub quota : HasNumber 1 10000 (codes "quota") rows
  pub percent : HasNumber 1 99 (codes "percent") rows
  pub growth : HasNumber 101 400 (codes "growth") rows
  pub start : HasNumber 0 last_horizon (codes "start") rows
  pub max : HasNumber 0 last_horizon (codes "max-horizon") rows
  pub budget : HasNumber 0 1000000 (codes "budget") rows
  pub slice : HasNumber 1 10000 (codes "slice") rows

-- And its workers.
abbrev pub HasSettings : List Row → Type 0
HasSettings rows = HasNumbers rows × HasNumber 1 16 (codes "workers") rows

-- The same for each command.
abbrev pub Has : Name → List Row → Type 0
Has (name.Plan stepping) rows = HasSettings rows
Has name.Gen rows = HasNumber 1 64 (codes "number") rows × HasSettings rows
Has name.Prove rows = HasNumber 0 last_horizon (codes "horizon") rows × HasNumber 0 1000000 (codes "budget") rows
Has name.Batch rows = HasNumbers rows
Has _ rows = ⊤
