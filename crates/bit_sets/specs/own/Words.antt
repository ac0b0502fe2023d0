use Rattle.std.specs.Prelude.{◌≡◌, ℕ, ◌+◌, ◌*◌, ◌<◌, ◌==◌, Bool, true, false, Option, Some, None}
use Rattle.std.specs.Int.{bit_at}

-- a word has a bit
abbrev pub word_has : ℕ → ℕ → Bool
word_has w k = bit_at w k == 1

-- no number passes a test, or the least that does
abbrev pub IsLeast : (ℕ → Bool) → Option ℕ → Type 0
IsLeast p None = (k : ℕ) → p k ≡ false
IsLeast p (Some k) = (p k ≡ true) × ((j : ℕ) → j < k → p j ≡ false)

-- whether an even number passes one test and the next one another
abbrev pub IsPairAcross : (ℕ → Bool) → (ℕ → Bool) → Bool → Type 0
IsPairAcross p q true = (f : ℕ) × (p (2 * f) ≡ true) × (q (2 * f + 1) ≡ true)
IsPairAcross p q false = (f : ℕ) → p (2 * f) ≡ true → q (2 * f + 1) ≡ true → ⊥
