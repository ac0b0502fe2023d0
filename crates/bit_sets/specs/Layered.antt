use Rattle.std.specs.Prelude.{◌≡◌, ℕ, ◌*◌, ◌/◌, ◌%◌, ◌^◌, ◌<◌, ◌≤◌, ◌==◌, ◌&&◌, ◌||◌, List, length, slice_index, slice_set, Bool, true, false, not, Option, Some, None, bit_or}
pub use Rattle.bit_sets.specs.own.Words.{word_has, IsLeast}

-- whether a list of words has a bit
abbrev pub words_have : List ℕ → ℕ → Bool
words_have words k = word_has (slice_index words (k / 64)) (k % 64)

-- words, with a set of the places of those that are not 0
pub record LayerView (S : Type 0) : Type 0 where
  pub words : List ℕ
  pub above : S

-- a set has just the numbers of the words that are not 0
abbrev pub IsAbove : List ℕ → (ℕ → Bool) → Type 0
IsAbove words p = (j : ℕ) → p j ≡ not (slice_index words j == 0)

-- a number is the least member of a set in the word of 64 numbers that another one is in
pub record IsLeastNear (p : ℕ → Bool) (number least : ℕ) : Type 0 where
  pub near : least / 64 ≡ number / 64
  pub own : p least ≡ true
  pub none : (j : ℕ) → j / 64 ≡ number / 64 → j < least → p j ≡ false

-- words with one more bit
abbrev pub word_with : ℕ → ℕ → ℕ
word_with w b = bit_or w (1 * 2 ^ b % 2 ^ 64)

-- words with the bit of this number, if there is one
abbrev pub words_with : List ℕ → Option ℕ → List ℕ
words_with words None = words
words_with words (Some n) = slice_set words (n / 64) (word_with (slice_index words (n / 64)) (n % 64))

-- whether a list of words has a bit, or this is that one
abbrev pub bits_with : List ℕ → ℕ → ℕ → Bool
bits_with words n k = k == n || words_have words k

-- all members of a set are past a number; where there is none, the set is empty
abbrev pub IsPast : (ℕ → Bool) → Option ℕ → Type 0
IsPast p None = (k : ℕ) → p k ≡ false
IsPast p (Some n) = (k : ℕ) → k ≤ n → p k ≡ false

-- a number is a place of these words, if there is one
abbrev pub IsInside : List ℕ → Option ℕ → Type 0
IsInside words None = Unit {0}
IsInside words (Some n) = n < 64 * length words

-- the least member of a set is kept beside the others, all of which are past it: so it is told, and taken out, without a look at them
pub record IsFirst (words : List ℕ) (least : Option ℕ) : Type 0 where
  pub past : IsPast (words_have words) least
  pub inside : IsInside words least

-- a set's least member was taken out, if it had one
abbrev pub IsTakenLeast : (ℕ → Bool) → (ℕ → Bool) → Option ℕ → Type 0
IsTakenLeast p q None = ((k : ℕ) → p k ≡ false) × ((k : ℕ) → q k ≡ false)
IsTakenLeast p q (Some n) = IsLeast p (Some n) × ((k : ℕ) → q k ≡ (not (k == n) && p k))
