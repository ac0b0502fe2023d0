-- Ids that rise.
use Rattle.std.specs.Prelude.{ℕ, ◌+◌, ◌<◌, ◌==◌, List, [], ◌∷◌, length, slice_index, Option, Some, None, option_map, if◌then◌else◌}

-- an id is above 0 and above all of these
pub record Rises (id : ℕ) (ids : List ℕ) : Type 0 where
  pub positive : 0 < id
  pub above : (k : ℕ) → k < length ids → slice_index ids k < id

-- these ids rise, and they follow those from 1 to a number
pub record Follow (dense : ℕ) (later : List ℕ) : Type 0 where
  pub rising : (i j : ℕ) → i < j → j < length later → slice_index later i < slice_index later j
  pub above : (k : ℕ) → k < length later → dense + k < slice_index later k

-- the first place of an id, from 0
abbrev pub place_of : List ℕ → ℕ → Option ℕ
place_of [] id = None
place_of (first ∷ ids) id = if first == id then Some 0 else option_map (λ place. place + 1) (place_of ids id)
