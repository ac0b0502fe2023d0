-- The numbers of a shelf's or a sink's calls.
use Rattle.std.specs.Prelude.{ℕ, List, Contains, min, ◌+◌, ◌-◌, ◌^◌}

-- the number of the next call: calls are counted from 1, and the count stands still at the last number of 32 bits
abbrev pub next_call : ℕ → ℕ
next_call calls = min (calls + 1) (2 ^ 32 - 1)

-- the next call is one of those that fail
abbrev pub NextFails : List ℕ → ℕ → Type 0
NextFails failing calls = Contains failing (next_call calls)
