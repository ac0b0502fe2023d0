-- What the known clauses tell of a literal.
use Rattle.std.proofs.Common.{arith, ◌≡◌, ◌==◌, ◌<◌, ◌≤◌, ◌*◌, ◌+◌, ℕ, List, [], Bool, true, false, ◌&&◌, ◌||◌, sym, ◌∙◌, subst, inl, inr, Some}
use Rattle.std.proofs.lemmas.Bool.{cases_lt}
use Rattle.bit_sets.specs.Rows.{row_has, IsLeastFrom}
use Rattle.gt_core.specs.Literal.{opposite, is_in}
use Rattle.gt_core.specs.Clauses.{KnownClauses, IsKnownClauses, IsClause}
use Rattle.gt_core.specs.Interference.{has_clause}
use Rattle.gt_core.proofs.published.Basics.{passing, and_split, or_split, apart, each_at, test_same}
use Rattle.implied_literals.specs.Known.{IsFull}
use Rattle.never_check.specs.Follow.{HasAll, IsGrown, IsContradiction}
use Rattle.never_check.proofs.Grown.{pair_from, front_in, grown_then, grown_by}

-- a known clause is over the facts
pub clause_below : (known : KnownClauses) → IsKnownClauses known → (l m : ℕ) → has_clause known.clauses l m ≡ true → (l < 2 * known.facts) × (m < 2 * known.facts)
clause_below known lawful l m h =
    let p = passing (λ (c : ℕ × ℕ). ((c.0 == l) && (c.1 == m)) || ((c.0 == m) && (c.1 == l))) known.clauses h in
    let t = each_at (IsClause known.facts) known.clauses p.one lawful.lawful p.among in
    let first = t.0 in
    let second = t.1 in
    elim (or_split _ _ p.passes) [
      | inl e ↦ let z = and_split (p.one.0 == l) _ e in let x = test_same p.one.0 l z.0 in let y = test_same p.one.1 m z.1 in (omega (arith, first, second, x, y), omega (arith, first, second, x, y))
      | inr e ↦ let z = and_split (p.one.0 == m) _ e in let x = test_same p.one.0 m z.0 in let y = test_same p.one.1 l z.1 in (omega (arith, first, second, x, y), omega (arith, first, second, x, y))
    ]

-- each literal with which one stands in a known clause, below a bound, is in a list
abbrev pub ToldBelow : List (ℕ × ℕ) → ℕ → ℕ → List ℕ → Type 0
ToldBelow known x bound ls = (y : ℕ) → y < bound → has_clause known x y ≡ true → is_in ls y ≡ true

module _ (known : KnownClauses) (lawful : IsKnownClauses known) (x : ℕ) (row : List ℕ) (is : (m : ℕ) → m < 2 * known.facts → row_has row m ≡ has_clause known.clauses x m) where
  -- past the last literal of the row nothing is told
  pub told_all : (from : ℕ) (ls : List ℕ) → ToldBelow known.clauses x from ls → ((k : ℕ) → from ≤ k → row_has row k ≡ false) → (y : ℕ) → has_clause known.clauses x y ≡ true → is_in ls y ≡ true
  told_all from ls told none y h = elim (cases_lt y from) [
    | inl lt ↦ told y lt h
    | inr le ↦ absurd (apart _ (is y (clause_below known lawful x y h).1 ∙ h) (none y le))
  ]

  pub told_top : (from other : ℕ) (ls : List ℕ) → 2 * known.facts ≤ other → ToldBelow known.clauses x from ls → IsLeastFrom (row_has row) from (Some other) → (y : ℕ) → has_clause known.clauses x y ≡ true → is_in ls y ≡ true
  told_top from other ls past told least y h = elim (cases_lt y from) [
    | inl lt ↦ told y lt h
    | inr le ↦ let below = (clause_below known lawful x y h).1 in absurd (apart _ (is y below ∙ h) (least.2 y le (omega arith)))
  ]

  pub told_next : (from other : ℕ) (ls more : List ℕ) → other < 2 * known.facts → HasAll (is_in more) ls → is_in more other ≡ true → ToldBelow known.clauses x from ls → IsLeastFrom (row_has row) from (Some other) → ToldBelow known.clauses x (other + 1) more
  told_next from other ls more within has here told least y lt h = elim (cases_lt y from) [
    | inl below ↦ has y (told y below h)
    | inr le ↦ elim (cases_lt y other) [
      | inl below ↦ absurd (apart _ (is y (omega arith) ∙ h) (least.2 y le below))
      | inr past ↦ let same : other ≡ y = omega arith in subst (λ (k : ℕ). is_in more k ≡ true) same here
    ]
  ]

  pub told_clause : (from other : ℕ) → other < 2 * known.facts → IsLeastFrom (row_has row) from (Some other) → has_clause known.clauses x other ≡ true
  told_clause from other within least = sym (is other within) ∙ least.1

module _ (known : List (ℕ × ℕ)) (lit : ℕ) (old mid : List ℕ) (reached : is_in old lit ≡ true) (grown : IsGrown (IsFull (has_clause known) []) old mid) where
  -- a full set with the old literals has what is told
  told_in : (set : ℕ → Bool) (other : ℕ) → has_clause known (opposite lit) other ≡ true → IsFull (has_clause known) [] set → HasAll set old → set other ≡ true
  told_in set other h full has = full.chain lit other (has lit reached) h

  pub known_clash : (other : ℕ) → has_clause known (opposite lit) other ≡ true → is_in mid (opposite other) ≡ true → IsContradiction (IsFull (has_clause known) []) old
  known_clash other h clash = λ set full has none. pair_from set other (told_in set other h full has) (grown.sound set full has (opposite other) clash) none

  pub known_grown : (new : List ℕ) (other : ℕ) → has_clause known (opposite lit) other ≡ true → IsGrown (λ set. set other ≡ true) mid new → IsGrown (IsFull (has_clause known) []) old new
  known_grown new other h added = record {
    front = (grown_then (IsFull (has_clause known) []) old mid new grown (grown_by (IsFull (has_clause known) []) (λ set. set other ≡ true) mid new (λ set full has. full.chain lit other (has lit (front_in old mid grown.front lit reached)) h) added)).front;
    sound = λ set full has. added.sound set (told_in set other h full has) (grown.sound set full has);
    apart = λ none. added.apart (grown.apart none);
  }
