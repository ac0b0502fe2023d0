use Rattle.std.proofs.Common.{arith, ◌≡◌, ◌==◌, ℕ, zero, suc, ◌<◌, List, [], ◌∷◌, ◌++◌, length, get_or, set, true, refl, ap, sym, ◌∙◌, ◌%◌, Vec, Global}
use Rattle.std.specs.List.{list_any}
use Rattle.gt_core.proofs.published.Basics.{or_left, or_right, same_test}
use Rattle.std.proofs.lemmas.List.{length-set}
use Rattle.two_invariants.specs.own.Numbers.{numbers_at, has_number}
use Rattle.implied_literals.proofs.published.Steps.{any_push}

-- Lists of numbers by key.

pub numbers_read : (lists : List (Vec ℕ Global)) (k : ℕ) (v : Vec ℕ Global) → k < length lists → v ≡ get_or lists k v → v.items ≡ numbers_at lists k
numbers_read [] k v lt at = absurd (omega arith)
numbers_read (w ∷ ws) zero v lt at = ap (λ (x : Vec ℕ Global). x.items) at
numbers_read (w ∷ ws) (suc k) v lt at = numbers_read ws k v (omega arith) at

-- one list has a number more
module _ (v w : Vec ℕ Global) (number : ℕ) (is : w.items ≡ v.items ++ number ∷ []) where
  pub added_more : (lists : List (Vec ℕ Global)) (i k n : ℕ) → i < length lists → v ≡ get_or lists i v
      → list_any (λ j. j == n) (numbers_at lists k) ≡ true → list_any (λ j. j == n) (numbers_at (set lists i w) k) ≡ true
  added_more [] i k n lt at h = absurd (omega arith)
  added_more (u ∷ us) zero zero n lt at h =
      ap (list_any (λ j. j == n)) is ∙ any_push (λ j. j == n) v.items number
      ∙ or_left (list_any (λ j. j == n) v.items) (number == n) (ap (λ (x : Vec ℕ Global). list_any (λ j. j == n) x.items) at ∙ h)
  added_more (u ∷ us) zero (suc k) n lt at h = h
  added_more (u ∷ us) (suc i) zero n lt at h = h
  added_more (u ∷ us) (suc i) (suc k) n lt at h = added_more us i k n (omega arith) at h

  pub added_own : (lists : List (Vec ℕ Global)) (i : ℕ) → i < length lists → list_any (λ j. j == number) (numbers_at (set lists i w) i) ≡ true
  added_own [] i lt = absurd (omega arith)
  added_own (u ∷ us) zero lt =
      ap (list_any (λ j. j == number)) is ∙ any_push (λ j. j == number) v.items number
      ∙ or_right (list_any (λ j. j == number) v.items) (number == number) (same_test number number refl)
  added_own (u ∷ us) (suc i) lt = added_own us i (omega arith)

  pub more_numbers : (lists : List (Vec ℕ Global)) (i k n : ℕ) → i < length lists → v ≡ get_or lists i v → has_number lists k n ≡ true → has_number (set lists i w) k n ≡ true
  more_numbers lists i k n lt at h =
      ap (λ (count : ℕ). list_any (λ j. j == n) (numbers_at (set lists i w) (k % count))) (length-set lists i w)
      ∙ added_more lists i (k % length lists) n lt at h

  pub own_number : (lists : List (Vec ℕ Global)) (i key : ℕ) → i < length lists → i ≡ key % length lists → has_number (set lists i w) key number ≡ true
  own_number lists i key lt e =
      ap (λ (count : ℕ). list_any (λ j. j == number) (numbers_at (set lists i w) (key % count))) (length-set lists i w)
      ∙ ap (λ (place : ℕ). list_any (λ j. j == number) (numbers_at (set lists i w) place)) (sym e)
      ∙ added_own lists i lt
