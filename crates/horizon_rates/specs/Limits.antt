-- The limit of horizons.
use Rattle.std.specs.Prelude.{ℕ}

-- The greatest horizon.
abbrev pub last_horizon : ℕ
last_horizon = 255
