use Rattle.std.specs.Prelude.{◌≡◌, ℕ, zero, suc, ◌+◌, ◌*◌, ◌<◌, ◌≤◌, List, [], Bool, true, false, length, slice_index_or}
use Rattle.bit_sets.specs.Rows.{row_has}
use Rattle.gt_core.specs.Literal.{opposite}
use Rattle.gt_core.specs.Limits.{most_facts}

-- Clauses as rows of bits, one row a literal: the literals that stand in a clause with it, and itself where it is a
-- clause alone.

-- the row of a literal; empty past the last
abbrev pub row_at : List (List ℕ) → ℕ → List ℕ
row_at rows l = slice_index_or rows l []

-- two literals stand in a clause
abbrev pub clause_in : List (List ℕ) → ℕ → ℕ → Bool
clause_in rows l m = row_has (row_at rows l) m

-- each clause is over literals of so many facts
pub record AreRows (facts : ℕ) (rows : List (List ℕ)) : Type 0 where
  pub few : facts ≤ most_facts
  pub long : length rows ≡ 2 * facts
  pub within : (l m : ℕ) → clause_in rows l m ≡ true → m < 2 * facts

-- Sets of literals.

-- each member of the one set is a member of the other
abbrev pub IsPart : (ℕ → Bool) → (ℕ → Bool) → Type 0
IsPart set other = (m : ℕ) → set m ≡ true → other m ≡ true

-- with a literal each other one of a clause with its opposite
abbrev pub IsChained : (ℕ → ℕ → Bool) → (ℕ → Bool) → Type 0
IsChained V set = (x y : ℕ) → set x ≡ true → V (opposite x) y ≡ true → set y ≡ true

-- no literal together with its opposite
abbrev pub HasNoPair : (ℕ → Bool) → Type 0
HasNoPair set = (f : ℕ) → set (2 * f) ≡ true → set (2 * f + 1) ≡ true → ⊥

-- the least chained set with some literals; where a pair is in it, perhaps less of it
pub record IsClosure (V : ℕ → ℕ → Bool) (start set : ℕ → Bool) : Type 0 where
  pub given : IsPart start set
  pub sound : (other : ℕ → Bool) → IsChained V other → IsPart start other → IsPart set other
  pub chained : HasNoPair set → IsChained V set

-- the same while it grows: the literals of `todo` were not followed yet
pub record IsGrowing (V : ℕ → ℕ → Bool) (size : ℕ) (set todo : ℕ → Bool) : Type 0 where
  pub within : (m : ℕ) → set m ≡ true → m < size
  pub listed : IsPart todo set
  pub chained : HasNoPair set → (x y : ℕ) → set x ≡ true → todo x ≡ false → V (opposite x) y ≡ true → set y ≡ true

-- one set came from another by following literals
pub record IsGrownFrom (V : ℕ → ℕ → Bool) (before after : ℕ → Bool) : Type 0 where
  pub more : IsPart before after
  pub sound : (other : ℕ → Bool) → IsChained V other → IsPart before other → IsPart after other

-- how much there is to follow
abbrev pub weight : Bool → Bool → ℕ
weight set true = 1
weight true false = 0
weight false false = 2

-- the sum of the weights of the numbers below n
abbrev pub total : (ℕ → ℕ) → ℕ → ℕ
total w zero = 0
total w (suc n) = w n + total w n

-- how much is left to do: 2 for a literal that is neither known nor listed, 1 for one that is listed
abbrev pub work : ℕ → (ℕ → Bool) → (ℕ → Bool) → ℕ
work size set todo = total (λ m. weight (set m) (todo m)) size
