use Rattle.std.specs.Prelude.{◌≡◌, ℕ, ◌*◌, ◌/◌, ◌<◌, ◌≤◌, ◌⊎◌, ◌==◌, ◌&&◌, ◌||◌, nat_lt, if◌then◌else◌, List, [], ◌∷◌, ◌++◌, Bool, length, take, drop, slice_index_or}
use Rattle.std.specs.List.{AllByRecursion}
use Rattle.bit_sets.specs.Rows.{row_has}
use Rattle.gt_core.specs.Interference.{has_clause}
use Rattle.gt_core.specs.Published.{Pairwise}
use Rattle.gt_core.specs.Limits.{most_facts}

-- a set of known clauses over so many facts
pub record KnownClauses : Type 0 where
  pub facts : ℕ
  pub clauses : List (ℕ × ℕ)

-- a clause of one literal, which stands twice, or of two literals of different facts, the smaller first
abbrev pub IsClause : ℕ → ℕ × ℕ → Type 0
IsClause facts c = (c.0 ≤ c.1) × (c.1 < 2 * facts) × ((c.0 ≡ c.1) ⊎ (c.0 / 2 < c.1 / 2))

-- one clause comes before another: by the smaller literal, then by the greater
abbrev pub IsBefore : ℕ × ℕ → ℕ × ℕ → Type 0
IsBefore c d = (c.0 < d.0) ⊎ ((c.0 ≡ d.0) × (c.1 < d.1))

-- what each set of known clauses keeps: its clauses are over its facts, sorted, without repeats
pub record IsKnownClauses (known : KnownClauses) : Type 0 where
  pub few : known.facts ≤ most_facts
  pub lawful : AllByRecursion (IsClause known.facts) known.clauses
  pub sorted : Pairwise IsBefore known.clauses

-- a row of bits for each literal: the literals that stand in a clause with it
pub record AreClauseRows (facts : ℕ) (clauses : List (ℕ × ℕ)) (rows : List (List ℕ)) : Type 0 where
  pub long : length rows ≡ 2 * facts
  pub tells : (l m : ℕ) → l < 2 * facts → m < 2 * facts → row_has (slice_index_or rows l []) m ≡ has_clause clauses l m

-- two lists have the same clauses
abbrev pub SameClauses : List (ℕ × ℕ) → List (ℕ × ℕ) → Type 0
SameClauses cs ds = (l m : ℕ) → has_clause cs l m ≡ has_clause ds l m

-- two literals, the smaller first
abbrev pub in_order : ℕ → ℕ → ℕ × ℕ
in_order l m = if nat_lt l m then (l, m) else (m, l)

-- the test of IsBefore
abbrev pub is_before : ℕ × ℕ → ℕ × ℕ → Bool
is_before c d = nat_lt c.0 d.0 || ((c.0 == d.0) && nat_lt c.1 d.1)

-- a place in a sorted list up to which clauses come before one, and from which on they come after it
pub record IsPlaceOf (clauses : List (ℕ × ℕ)) (one : ℕ × ℕ) (place : ℕ) : Type 0 where
  pub within : place ≤ length clauses
  pub before : AllByRecursion (λ c. IsBefore c one) (take place clauses)
  pub after : AllByRecursion (IsBefore one) (drop place clauses)

-- a list with a clause put in where it belongs
pub record IsPutIn (before : List (ℕ × ℕ)) (one : ℕ × ℕ) (after : List (ℕ × ℕ)) : Type 0 where
  pub place : ℕ
  pub sorted : IsPlaceOf before one place
  pub is : after ≡ take place before ++ one ∷ drop place before
