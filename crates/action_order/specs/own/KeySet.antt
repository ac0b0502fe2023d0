use Rattle.std.specs.Prelude.{◌≡◌, ℕ, ◌<◌, ◌⊎◌, List, true}
use Rattle.gt_core.specs.Literal.{is_in}

-- Sets of numbers that give their least member, as lists in whatever order.

-- the least element of a list, and the list without it
pub record IsFirst (before : List ℕ) (k : ℕ) (after : List ℕ) : Type 0 where
  pub among : is_in before k ≡ true
  pub others : (x : ℕ) → is_in after x ≡ true → (is_in before x ≡ true) × (k < x)
  pub rest : (x : ℕ) → is_in before x ≡ true → (x ≡ k) ⊎ (is_in after x ≡ true)

-- a list with one more element, in whatever order
pub record IsWith (before : List ℕ) (k : ℕ) (after : List ℕ) : Type 0 where
  pub added : is_in after k ≡ true
  pub kept : (x : ℕ) → is_in before x ≡ true → is_in after x ≡ true
  pub only : (x : ℕ) → is_in after x ≡ true → (x ≡ k) ⊎ (is_in before x ≡ true)
