use Rattle.std.specs.Prelude.{◌≡◌, ℕ, List, Bool, true}
use Rattle.std.specs.List.{AllByRecursion}
use Rattle.gt_core.specs.Literal.{opposite}

-- What is known of a state from some literals that hold in it and from clauses of one or two literals. A set of clauses
-- is a test on two literals; the clause of one literal has it twice.

-- a set of literals has those given, each that is a clause by itself, and with a literal each other one of a clause
-- with its opposite
pub record IsFull (V : ℕ → ℕ → Bool) (base : List ℕ) (set : ℕ → Bool) : Type 0 where
  pub given : AllByRecursion (λ l. set l ≡ true) base
  pub single : (l : ℕ) → V l l ≡ true → set l ≡ true
  pub chain : (x y : ℕ) → set x ≡ true → V (opposite x) y ≡ true → set y ≡ true

-- a literal is known: it is in the least such set
abbrev pub IsKnown : (ℕ → ℕ → Bool) → List ℕ → ℕ → Type 0
IsKnown V base l = (set : ℕ → Bool) → IsFull V base set → set l ≡ true

-- each of these literals is known
abbrev pub AllKnown : (ℕ → ℕ → Bool) → List ℕ → List ℕ → Type 0
AllKnown V base ls = AllByRecursion (IsKnown V base) ls

-- no literal is known together with its opposite
abbrev pub IsConsistent : (ℕ → ℕ → Bool) → List ℕ → Type 0
IsConsistent V base = (l : ℕ) → IsKnown V base l → IsKnown V base (opposite l) → ⊥
