-- Following literals by clauses: what is added, and when nothing is left to follow.
use Rattle.std.specs.Prelude.{◌≡◌, ℕ, ◌<◌, List, [], Bool, true, length, take, slice_index_or, MatchBool}
use Rattle.std.specs.List.{AllByRecursion}
use Rattle.gt_core.specs.Literal.{opposite, is_in}
use Rattle.gt_core.specs.Interference.{has_clause}
use Rattle.implied_literals.specs.Known.{IsFull}
use Rattle.implied_literals.specs.Rows.{HasNoPair}
use Rattle.never_defs.specs.Propagation.{IsLeft}

-- a set of literals has the literal that is left of a clause
abbrev pub Obeys : (ℕ → Bool) → List ℕ → Type 0
Obeys set c = (l : ℕ) → IsLeft set c l → set l ≡ true

-- a set has each literal of a list
abbrev pub HasAll : (ℕ → Bool) → List ℕ → Type 0
HasAll set ls = (l : ℕ) → is_in ls l ≡ true → set l ≡ true

-- the literals are below a size
abbrev pub AreBelow : ℕ → List ℕ → Type 0
AreBelow size ls = AllByRecursion (λ l. l < size) ls

-- the new literals begin with the old ones, are in each set that has the old ones and obeys a rule, and have no two opposite
-- ones more
pub record IsGrown (rule : (ℕ → Bool) → Type 0) (old new : List ℕ) : Type 0 where
  pub front : take (length old) new ≡ old
  pub sound : (set : ℕ → Bool) → rule set → ((l : ℕ) → is_in old l ≡ true → set l ≡ true) → (l : ℕ) → is_in new l ≡ true → set l ≡ true
  pub apart : HasNoPair (is_in old) → HasNoPair (is_in new)

-- no set that has the literals and obeys a rule is without two opposite literals
abbrev pub IsContradiction : ((ℕ → Bool) → Type 0) → List ℕ → Type 0
IsContradiction rule old = (set : ℕ → Bool) → rule set → ((l : ℕ) → is_in old l ≡ true → set l ≡ true) → HasNoPair set → ⊥

-- what is told by a test whether literals contradict others by a rule: they do, or the new literals are what it adds, and more holds
abbrev pub Adds : ((ℕ → Bool) → Type 0) → List ℕ → List ℕ → Type 0 → Bool → Type 0
Adds rule old new more b = MatchBool b (IsContradiction rule old) (IsGrown rule old new × more)

-- the rule of known clauses and of others
abbrev pub ObeysAll : List (ℕ × ℕ) → List (List ℕ) → (ℕ → Bool) → Type 0
ObeysAll known clauses set = IsFull (has_clause known) [] set × AllByRecursion (Obeys set) clauses

-- what follows from the first literals is among all of them
pub record IsFollowed (known : List (ℕ × ℕ)) (clauses : List (List ℕ)) (first all : List ℕ) : Type 0 where
  pub single : (l : ℕ) → has_clause known l l ≡ true → is_in all l ≡ true
  pub chain : (x y : ℕ) → is_in first x ≡ true → has_clause known (opposite x) y ≡ true → is_in all y ≡ true
  pub unit : AllByRecursion (λ c. (l : ℕ) → IsLeft (is_in first) c l → is_in all l ≡ true) clauses

-- the numbers of the clauses with a literal are listed for it
pub record AreUses (size : ℕ) (clauses : List (List ℕ)) (uses : List (List ℕ)) : Type 0 where
  pub long : length uses ≡ size
  pub numbers : (l : ℕ) → AllByRecursion (λ k. k < length clauses) (slice_index_or uses l [])
  pub each : (k l : ℕ) → k < length clauses → is_in (slice_index_or clauses k []) l ≡ true → is_in (slice_index_or uses l []) k ≡ true
  pub only : (k l : ℕ) → is_in (slice_index_or uses l []) k ≡ true → is_in (slice_index_or clauses k []) l ≡ true
