-- Literals as bytes, and the literals back from them.
use Rattle.std.proofs.Common.{arith, ◌≡◌, ℕ, ◌^◌, ◌<◌, List, [], ◌∷◌, ◌++◌, length, append_assoc, All, ap, sym, refl, ◌∙◌}
use Rattle.std.proofs.lemmas.List.{append-nil}
use Rattle.proof_log.specs.own.Number.{bytes_of, after_number}
use Rattle.proof_log.specs.own.Numbers.{steps_of, numbers_of}
use Rattle.proof_log.specs.own.Placed.{counted_numbers}
use Rattle.proof_log.proofs.NumberLaws.{number_back, after_back}
use Rattle.proof_log.proofs.NumbersLaws.{numbers_back}

-- the numbers that were put come back
pub all_back : (numbers bytes exact : List ℕ) → All (λ n. n < 2 ^ 32) numbers → bytes ≡ steps_of 0 numbers → exact ≡ bytes → numbers_of (length numbers) 0 exact ≡ numbers
all_back numbers bytes exact small put same =
    ap (numbers_of (length numbers) 0) (same ∙ put ∙ sym (append-nil (steps_of 0 numbers)))
    ∙ numbers_back 0 numbers [] (omega arith) small

-- so do those that stand behind how many they are
pub counted_back : (numbers bytes exact : List ℕ) → length numbers < 2 ^ 64 → All (λ n. n < 2 ^ 32) numbers → bytes ≡ bytes_of (length numbers) ++ steps_of 0 numbers → exact ≡ bytes
    → counted_numbers exact ≡ numbers
counted_back numbers bytes exact few small put same =
    ap counted_numbers (same ∙ put)
    ∙ ap (λ (k : ℕ). numbers_of k 0 (after_number (bytes_of (length numbers) ++ steps_of 0 numbers))) (number_back (length numbers) (steps_of 0 numbers) few)
    ∙ ap (numbers_of (length numbers) 0) (after_back (length numbers) (steps_of 0 numbers) few)
    ∙ all_back numbers (steps_of 0 numbers) (steps_of 0 numbers) small refl refl

-- one number more of those that are taken out
pub one_taken : (whole now pushed rest next : List ℕ) (n : ℕ) → rest ≡ n ∷ next → pushed ≡ now ++ n ∷ [] → now ++ rest ≡ whole → pushed ++ next ≡ whole
one_taken whole now pushed rest next n r p h =
    ap (λ (xs : List ℕ). xs ++ next) p ∙ append_assoc now (n ∷ []) next ∙ ap (λ (xs : List ℕ). now ++ xs) (sym r) ∙ h

-- all are taken out
pub all_taken : (whole now rest : List ℕ) → rest ≡ [] → now ++ rest ≡ whole → now ≡ whole
all_taken whole now rest none h = sym (append-nil now) ∙ ap (λ (xs : List ℕ). now ++ xs) (sym none) ∙ h
