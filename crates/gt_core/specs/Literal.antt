use Rattle.std.specs.Prelude.{ℕ, zero, suc, ◌+◌, ◌==◌, List, [], ◌∷◌, Bool, false, unwrap_or, slice_get}
use Rattle.std.specs.List.{list_any, list_all}
pub use Rattle.containers.specs.Codes.{opposite, holds}

-- a number stands in a list
abbrev pub is_in : List ℕ → ℕ → Bool
is_in xs x = list_any (λ y. y == x) xs

-- A state says of each fact whether it is true.

-- each of these literals holds in a state
abbrev pub all_hold : (ℕ → Bool) → List ℕ → Bool
all_hold s ls = list_all (holds s) ls

-- the state that a list of truth values is; facts past its end are false
abbrev pub state_of : List Bool → ℕ → Bool
state_of values f = unwrap_or (slice_get values f) false

-- so many numbers, rising by one from a first one
abbrev pub range_from : ℕ → ℕ → List ℕ
range_from first zero = []
range_from first (suc n) = first ∷ range_from (first + 1) n

-- the numbers below n, rising
abbrev pub range : ℕ → List ℕ
range n = range_from 0 n
