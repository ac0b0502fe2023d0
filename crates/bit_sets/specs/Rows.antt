use Rattle.std.specs.Prelude.{◌≡◌, ℕ, ◌*◌, ◌/◌, ◌%◌, ◌<◌, ◌≤◌, List, Bool, true, false, Option, Some, None, length, slice_index}
pub use Rattle.bit_sets.specs.own.Words.{word_has, IsPairAcross}

-- A set of numbers is a row of words, 64 numbers to a word.

-- a number is in the set
abbrev pub row_has : List ℕ → ℕ → Bool
row_has row k = word_has (slice_index row (k / 64)) (k % 64)

-- below which number there is room
abbrev pub room : List ℕ → ℕ
room row = 64 * length row

-- the least number from one on that passes a test; none where no number from there on does
abbrev pub IsLeastFrom : (ℕ → Bool) → ℕ → Option ℕ → Type 0
IsLeastFrom p low None = (k : ℕ) → low ≤ k → p k ≡ false
IsLeastFrom p low (Some k) = (low ≤ k) × (p k ≡ true) × ((j : ℕ) → low ≤ j → j < k → p j ≡ false)

-- whether an even number and the next one both pass a test
abbrev pub IsPairTest : (ℕ → Bool) → Bool → Type 0
IsPairTest p = IsPairAcross p p
