-- A walk in depth through the tree of types numbers each type where it is entered and where it is left, so that
-- the types at or under one are those that are entered before it is left, and not before it.
use Rattle.std.specs.Prelude.{◌≡◌, ◌<◌, ℕ, Bool, ◌&&◌, nat_le, nat_lt, List, length, slice_index}
use Rattle.pd_model.specs.Types.{is_under}

-- whether a type is entered while another is open
abbrev pub is_between : List ℕ → List ℕ → ℕ → ℕ → Bool
is_between entries exits kind above =
    nat_le (slice_index entries above) (slice_index entries kind) && nat_lt (slice_index entries kind) (slice_index exits above)

-- the numbers say which type lies at or under which
pub record IsTypeTree (parents entries exits : List ℕ) : Type 0 where
  pub entries_long : length entries ≡ length parents
  pub exits_long : length exits ≡ length parents
  pub between : (kind above : ℕ) → kind < length parents → is_between entries exits kind above ≡ is_under parents kind above
