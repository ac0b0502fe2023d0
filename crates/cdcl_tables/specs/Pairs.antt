-- Clauses of two literals, each of which is in the list of both.
use Rattle.std.specs.Prelude.{◌≡◌, ℕ, ◌*◌, ◌<◌, ◌⊎◌, List, [], ◌∷◌, length, slice_get, unwrap_or}
use Rattle.clause_base.specs.declared.pair.Pair.{Pair}
use Rattle.clause_base.specs.Pairs.{pair_in, pairs_from, pairs_of}

-- the clause with this number, or the empty one where there is none
abbrev pub clause_in : List (List ℕ) → ℕ → List ℕ
clause_in clauses number = unwrap_or (slice_get clauses number) []

-- a literal has the pair of a clause with this number and this other literal
pub record HasPair (pairs : List (List Pair)) (code other number : ℕ) : Type 0 where
  pub place : ℕ
  pub inside : place < length (pairs_of pairs code)
  pub is : pair_in (pairs_of pairs code) place ≡ record { other = other; number = number }

-- a clause of two literals is in the lists of both
pub record IsInPairs (pairs : List (List Pair)) (clause : List ℕ) (number : ℕ) : Type 0 where
  pub first : ℕ
  pub second : ℕ
  pub is : clause ≡ first ∷ second ∷ []
  pub has : HasPair pairs first second number
  pub back : HasPair pairs second first number

-- a pair of a literal is of a clause of these two literals
abbrev pub IsPairOf : List (List ℕ) → ℕ → Pair → Type 0
IsPairOf clauses code pair = (clause_in clauses pair.number ≡ code ∷ pair.other ∷ []) ⊎ (clause_in clauses pair.number ≡ pair.other ∷ code ∷ [])

-- each listed pair of a literal is one of a clause of two literals that has it
abbrev pub AreExact : List (List ℕ) → List (List Pair) → Type 0
AreExact clauses pairs = (code place : ℕ) → place < length (pairs_of pairs code) → IsPairOf clauses code (pair_in (pairs_of pairs code) place)

-- for each literal over so many variables just its pairs in these clauses
pub record IsIndex (variables : ℕ) (clauses : List (List ℕ)) (index : List (List Pair)) : Type 0 where
  pub long : length index ≡ 2 * variables
  pub pairs : (x : ℕ) → pairs_of index x ≡ pairs_from 0 x clauses
  pub exact : AreExact clauses index
  pub found : (c : ℕ) → c < length clauses → length (clause_in clauses c) ≡ 2 → IsInPairs index (clause_in clauses c) c
