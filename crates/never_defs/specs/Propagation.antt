-- What unit propagation comes to, by what it reaches in the end and not by its order.
use Rattle.std.specs.Prelude.{◌≡◌, ℕ, ◌⊎◌, List, [], Bool, true}
use Rattle.std.specs.List.{AllByRecursion}
use Rattle.gt_core.specs.Literal.{opposite}
use Rattle.gt_core.specs.Interference.{has_clause}
use Rattle.implied_literals.specs.Known.{IsFull}
use Rattle.implied_literals.specs.Rows.{HasNoPair}

-- under a set of literals each literal of a clause is false but, where it is in it, one
abbrev pub IsLeft : (ℕ → Bool) → List ℕ → ℕ → Type 0
IsLeft set c l = AllByRecursion (λ m. (m ≡ l) ⊎ (set (opposite m) ≡ true)) c

-- nothing more follows from a set of literals: it has those that are given, what the known clauses tell of it, and with each
-- clause the literal that is left of it; where none is left, every literal
pub record IsPropagated (known : List (ℕ × ℕ)) (clauses : List (List ℕ)) (base set : ℕ → Bool) : Type 0 where
  pub given : (l : ℕ) → base l ≡ true → set l ≡ true
  pub full : IsFull (has_clause known) [] set
  pub unit : AllByRecursion (λ c. (l : ℕ) → IsLeft set c l → set l ≡ true) clauses

-- unit propagation comes to a contradiction: each such set has a literal together with its opposite
abbrev pub IsRefuted : List (ℕ × ℕ) → List (List ℕ) → (ℕ → Bool) → Type 0
IsRefuted known clauses base = (set : ℕ → Bool) → IsPropagated known clauses base set → HasNoPair set → ⊥
