use Rattle.std.proofs.Common.{arith, ◌≡◌, ℕ, ◌*◌, ◌/◌, ◌%◌, ◌<◌, List, length, get_or, set, Bool, sym, ap, ◌∙◌, ◌⊎◌, inl, inr, get_or-set_same, get_or-set_other}
use Rattle.bit_sets.specs.own.Words.{word_has}
use Rattle.bit_sets.proofs.published.WordLaw.{same_or_apart}

-- A list of words, one bit of which was changed.

-- the bit with this number has this value now, and each other one has what it had
abbrev pub IsChanged : List ℕ → List ℕ → ℕ → Bool → ℕ → Type 0
IsChanged before after n b k =
    ((n ≡ k) × (word_has (get_or after (k / 64) 0) (k % 64) ≡ b))
    ⊎ ((n ≡ k → ⊥) × (word_has (get_or after (k / 64) 0) (k % 64) ≡ word_has (get_or before (k / 64) 0) (k % 64)))

pub changed_bit : (words : List ℕ) (n w : ℕ) (b : Bool) → n < 64 * length words → word_has w (n % 64) ≡ b → ((k : ℕ) → (k ≡ n % 64 → ⊥) → word_has w k ≡ word_has (get_or words (n / 64) 0) k) → (k : ℕ) → IsChanged words (set words (n / 64) w) n b k
changed_bit words n w b inside same others k = by (same_or_apart n k) (same_or_apart (k / 64) (n / 64))
  where
    here : k / 64 ≡ n / 64 → word_has (get_or (set words (n / 64) w) (k / 64) 0) (k % 64) ≡ word_has w (k % 64)
    here e =
        ap (λ (i : ℕ). word_has (get_or (set words (n / 64) w) i 0) (k % 64)) e
        ∙ ap (λ (v : ℕ). word_has v (k % 64)) (get_or-set_same words (n / 64) w 0 (omega (arith, inside)))

    by : (n ≡ k) ⊎ (n ≡ k → ⊥) → (k / 64 ≡ n / 64) ⊎ (k / 64 ≡ n / 64 → ⊥) → IsChanged words (set words (n / 64) w) n b k
    by (inl e) q = inl (e, here (ap (λ (m : ℕ). m / 64) (sym e)) ∙ ap (λ (m : ℕ). word_has w (m % 64)) (sym e) ∙ same)
    by (inr d) (inl e) = inr (d, here e ∙ others (k % 64) (λ (r : k % 64 ≡ n % 64). d (omega (arith, e, r))) ∙ ap (λ (i : ℕ). word_has (get_or words i 0) (k % 64)) (sym e))
    by (inr d) (inr e) = inr (d, ap (λ (v : ℕ). word_has v (k % 64)) (get_or-set_other words (n / 64) (k / 64) w 0 e))
