-- Lengths as a number of 64 bits tells them.
use Rattle.std.specs.Prelude.{ℕ, min}

-- the length, or 18,446,744,073,709,551,615 where it is more
abbrev pub saturated : ℕ → ℕ
saturated length = min length 18446744073709551615
