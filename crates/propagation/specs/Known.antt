-- Which clauses were pending where the trail had a length.
use Rattle.std.specs.Prelude.{◌≡◌, ℕ, ◌<◌, ◌≤◌, List, Bool, true, length, slice_index}

-- a number stands in a list, at this place or after it
pub record IsListed (numbers : List ℕ) (low number : ℕ) : Type 0 where
  pub place : ℕ
  pub past : low ≤ place
  pub inside : place < length numbers
  pub is : slice_index numbers place ≡ number

-- each number that passes and is below another one stands in a list
abbrev pub AreListed : (ℕ → Bool) → List ℕ → ℕ → Type 0
AreListed passes numbers from = (k : ℕ) → passes k ≡ true → k < from → IsListed numbers 0 k
