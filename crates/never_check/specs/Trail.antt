-- Literals on a trail.
use Rattle.std.specs.Prelude.{◌≡◌, ℕ, ◌<◌, List, length, slice_index}

-- the literals that were reached, of those of so many facts, in order
pub record Reached : Type 0 where
  pub facts : ℕ
  pub literals : List ℕ

-- each literal has a place, and stands there
pub record ArePlaced (places literals : List ℕ) : Type 0 where
  pub below : (k : ℕ) → k < length literals → slice_index literals k < length places
  pub at : (k : ℕ) → k < length literals → slice_index places (slice_index literals k) ≡ k
