use Rattle.std.proofs.Common.{arith, ◌≡◌, ◌==◌, zero, suc, ℕ, ◌+◌, ◌-◌, ◌*◌, ◌/◌, ◌%◌, ◌^◌, ◌<◌, ◌≤◌, min, max, Bool, true, false, not, ◌||◌, ◌&&◌, refl, sym, ap, ◌∙◌, w64, bit_and, bit_or, ◌⊎◌, inl, inr}
use Rattle.std.specs.Prelude.{nat_le}
use Rattle.std.specs.Int.{bit_at}
use Rattle.std.proofs.lemmas.Bool.{and_parts, and_from, both_ways, not-true}
use Rattle.std.proofs.lemmas.Bool.Decides.{nat_tests}
use Rattle.std.proofs.lemmas.Nat.Bits.{bit_at_set_same, bit_at_set_other, bit_at_clear_same, bit_at_clear_other, bit_at-zero, bit_at_above, bit_at_and, bit_at_or, bit_at_not, bit_at-lt, bit_at-suc, bit_at_mask_inside, bit_at_mask_below, ones_shl, bit_at-trailing_zeros}
use Rattle.bit_sets.specs.own.Words.{word_has, IsPairAcross}

-- What the operations on words do to their bits.

past_or_within : (k : ℕ) → (k < 64) ⊎ (64 ≤ k)
past_or_within k = grind arith

-- a word of 64 bits has none past them
pub none_past : (w k : ℕ) → w < 2 ^ 64 → 64 ≤ k → word_has w k ≡ false
none_past w k f g = ap (λ (n : ℕ). n == 1) (bit_at_above w 64 k f g)

pub zero_has : (k : ℕ) → word_has 0 k ≡ false
zero_has k = ap (λ (n : ℕ). n == 1) (bit_at-zero k)

pub set_same : (w b : ℕ) → b < 64 → word_has (bit_or w (1 * 2 ^ b % 2 ^ 64)) b ≡ true
set_same w b h = ap (λ (n : ℕ). n == 1) (bit_at_set_same w64 w b h)

pub set_other : (w b : ℕ) → b < 64 → (k : ℕ) → (k ≡ b → ⊥) → word_has (bit_or w (1 * 2 ^ b % 2 ^ 64)) k ≡ word_has w k
set_other w b h k d = ap (λ (n : ℕ). n == 1) (bit_at_set_other w64 w b h k d)

pub clear_same : (w b : ℕ) → b < 64 → word_has (bit_and w (2 ^ 64 - 1 - 1 * 2 ^ b % 2 ^ 64)) b ≡ false
clear_same w b h = ap (λ (n : ℕ). n == 1) (bit_at_clear_same w64 w b h)

either_bit : (x y : ℕ) → x < 2 → y < 2 → (max x y == 1) ≡ ((x == 1) || (y == 1))
either_bit x y a b = grind (arith, nat_tests)

both_bits : (x y : ℕ) → x < 2 → y < 2 → (min x y == 1) ≡ ((x == 1) && (y == 1))
both_bits x y a b = grind (arith, nat_tests)

other_bit : (x : ℕ) → x < 2 → (1 - x == 1) ≡ not (x == 1)
other_bit x a = grind (arith, nat_tests)

pub or_has : (a b k : ℕ) → word_has (bit_or a b) k ≡ (word_has a k || word_has b k)
or_has a b k = ap (λ (n : ℕ). n == 1) (bit_at_or a b k) ∙ either_bit (bit_at a k) (bit_at b k) (bit_at-lt a k) (bit_at-lt b k)

pub and_has : (a b k : ℕ) → word_has (bit_and a b) k ≡ (word_has a k && word_has b k)
and_has a b k = ap (λ (n : ℕ). n == 1) (bit_at_and a b k) ∙ both_bits (bit_at a k) (bit_at b k) (bit_at-lt a k) (bit_at-lt b k)

pub not_has : (b k : ℕ) → b < 2 ^ 64 → k < 64 → word_has (2 ^ 64 - 1 - b) k ≡ not (word_has b k)
not_has b k f l = ap (λ (n : ℕ). n == 1) (bit_at_not w64 b k f l) ∙ other_bit (bit_at b k) (bit_at-lt b k)

none_and : (x y : Bool) → x ≡ false → (x && y) ≡ false
none_and true y e = cc
none_and false y e = refl

pub and_not_has : (a b k : ℕ) → a < 2 ^ 64 → b < 2 ^ 64 → word_has (bit_and a (2 ^ 64 - 1 - b)) k ≡ (word_has a k && not (word_has b k))
and_not_has a b k f g = and_has a (2 ^ 64 - 1 - b) k ∙ by (past_or_within k)
  where
    by : (k < 64) ⊎ (64 ≤ k) → (word_has a k && word_has (2 ^ 64 - 1 - b) k) ≡ (word_has a k && not (word_has b k))
    by (inl l) = ap (λ (x : Bool). word_has a k && x) (not_has b k g l)
    by (inr m) = none_and (word_has a k) _ (none_past a k f m) ∙ sym (none_and (word_has a k) _ (none_past a k f m))

pub clear_other : (w b : ℕ) → b < 64 → w < 2 ^ 64 → (k : ℕ) → (k ≡ b → ⊥) → word_has (bit_and w (2 ^ 64 - 1 - 1 * 2 ^ b % 2 ^ 64)) k ≡ word_has w k
clear_other w b h f k d = by (past_or_within k)
  where
    by : (k < 64) ⊎ (64 ≤ k) → word_has (bit_and w (2 ^ 64 - 1 - 1 * 2 ^ b % 2 ^ 64)) k ≡ word_has w k
    by (inl l) = ap (λ (n : ℕ). n == 1) (bit_at_clear_other w64 w b h k l d)
    by (inr g) = and_has w (2 ^ 64 - 1 - 1 * 2 ^ b % 2 ^ 64) k ∙ none_and (word_has w k) _ (none_past w k f g) ∙ sym (none_past w k f g)

cleared_zero : (w b : ℕ) → w ≡ 0 → bit_and w (2 ^ 64 - 1 - 1 * 2 ^ b % 2 ^ 64) ≡ 0
cleared_zero w b e = ap (λ (n : ℕ). bit_and n (2 ^ 64 - 1 - 1 * 2 ^ b % 2 ^ 64)) e ∙ refl

pub cleared_kept : (w b : ℕ) → (bit_and w (2 ^ 64 - 1 - 1 * 2 ^ b % 2 ^ 64) == 0) ≡ false → (w == 0) ≡ false
cleared_kept w b e = by (w == 0) refl
  where
    by : (c : Bool) → (w == 0) ≡ c → c ≡ false
    by true f =
        let z : w ≡ 0 = grind (arith, nat_tests) in
        let y : bit_and w (2 ^ 64 - 1 - 1 * 2 ^ b % 2 ^ 64) ≡ 0 = cleared_zero w b z in
        let x : (bit_and w (2 ^ 64 - 1 - 1 * 2 ^ b % 2 ^ 64) == 0) ≡ true = ap (λ (n : ℕ). n == 0) y in
        sym x ∙ e
    by false f = refl

low_mask : (b k : ℕ) → b < 64 → k < 64 → word_has (2 ^ 64 - 2 ^ b) k ≡ nat_le b k
low_mask b k h l = by (nat_le b k) refl
  where
    by : (t : Bool) → nat_le b k ≡ t → word_has (2 ^ 64 - 2 ^ b) k ≡ t
    by true e = let le : b ≤ k = grind (arith, nat_tests) in ap (λ (n : ℕ). n == 1) (bit_at_mask_inside b 64 k le l)
    by false e = let lt : k < b = grind (arith, nat_tests) in ap (λ (n : ℕ). n == 1) (bit_at_mask_below b 64 k lt)

swapped : (x y : Bool) → (x && y) ≡ (y && x)
swapped true true = refl
swapped true false = refl
swapped false true = refl
swapped false false = refl

pub from_has : (w b k : ℕ) → b < 64 → w < 2 ^ 64 → word_has (bit_and w ((2 ^ 64 - 1) * 2 ^ b % 2 ^ 64)) k ≡ (nat_le b k && word_has w k)
from_has w b k h f =
    ap (λ (m : ℕ). word_has (bit_and w m) k) (ones_shl 64 b (omega arith)) ∙ and_has w (2 ^ 64 - 2 ^ b) k ∙ by (past_or_within k)
  where
    by : (k < 64) ⊎ (64 ≤ k) → (word_has w k && word_has (2 ^ 64 - 2 ^ b) k) ≡ (nat_le b k && word_has w k)
    by (inl l) = ap (λ (x : Bool). word_has w k && x) (low_mask b k h l) ∙ swapped (word_has w k) (nat_le b k)
    by (inr g) =
        let none = none_past w k f g in
        none_and (word_has w k) _ none ∙ sym (swapped (nat_le b k) (word_has w k) ∙ none_and (word_has w k) (nat_le b k) none)

-- An even bit and the next one.

pub same_or_apart : (m n : ℕ) → (m ≡ n) ⊎ (m ≡ n → ⊥)
same_or_apart m n = grind arith

-- a test that passes at each number below n
abbrev all_below : (ℕ → Bool) → ℕ → Bool
all_below p zero = true
all_below p (suc n) = p n && all_below p n

step_below : (p : ℕ → Bool) (n k : ℕ) → p n ≡ true → (k < n → p k ≡ true) → k < suc n → p k ≡ true
step_below p n k t below l = by (same_or_apart k n)
  where
    by : (k ≡ n) ⊎ (k ≡ n → ⊥) → p k ≡ true
    by (inl e) = ap p e ∙ t
    by (inr d) = below (omega arith)

at_below : (p : ℕ → Bool) (n k : ℕ) → all_below p n ≡ true → k < n → p k ≡ true
at_below p zero k t l = absurd (omega arith)
at_below p (suc n) k t l = step_below p n k (and_parts (p n) (all_below p n) t).0 (at_below p n k (and_parts (p n) (all_below p n) t).1) l

-- the mask has the even bits, and no odd one
even_mask : (f : ℕ) → f < 32 → word_has 6148914691236517205 (2 * f) ≡ true
even_mask f l = at_below (λ i. word_has 6148914691236517205 (2 * i)) 32 f refl l

odd_mask : (f : ℕ) → f < 32 → word_has 6148914691236517205 (2 * f + 1) ≡ false
odd_mask f l = not-true _ (at_below (λ i. not (word_has 6148914691236517205 (2 * i + 1))) 32 f refl l)

shifted : (w k : ℕ) → word_has (w / 2) k ≡ word_has w (k + 1)
shifted w k = ap (λ (n : ℕ). n == 1) (sym (bit_at-suc w k)) ∙ ap (word_has w) (omega arith)

even_or_odd : (k : ℕ) → (f : ℕ) × ((k ≡ 2 * f) ⊎ (k ≡ 2 * f + 1))
even_or_odd k = (k / 2, by (same_or_apart (k % 2) 0))
  where
    by : (k % 2 ≡ 0) ⊎ (k % 2 ≡ 0 → ⊥) → (k ≡ 2 * (k / 2)) ⊎ (k ≡ 2 * (k / 2) + 1)
    by (inl e) = inl (omega arith)
    by (inr n) = inr (omega arith)

-- a bit of the word, of the shift of the other, and of the mask
pair_by : (w v k f : ℕ) → k < 64 → word_has w k ≡ true → word_has (v / 2) k ≡ true → word_has 6148914691236517205 k ≡ true → (k ≡ 2 * f) ⊎ (k ≡ 2 * f + 1) → (g : ℕ) × (word_has w (2 * g) ≡ true) × (word_has v (2 * g + 1) ≡ true)
pair_by w v k f l a b m (inl e) = (f, ap (word_has w) (sym e) ∙ a, ap (λ (n : ℕ). word_has v (n + 1)) (sym e) ∙ sym (shifted v k) ∙ b)
pair_by w v k f l a b m (inr e) = absurd (both_ways _ (ap (word_has 6148914691236517205) e ∙ odd_mask f (omega arith)) m)

pair_at : (w v k : ℕ) → k < 64 → word_has (bit_and (bit_and w (v / 2)) 6148914691236517205) k ≡ true → (f : ℕ) × (word_has w (2 * f) ≡ true) × (word_has v (2 * f + 1) ≡ true)
pair_at w v k l t =
    let two = and_parts _ _ (sym (and_has (bit_and w (v / 2)) 6148914691236517205 k) ∙ t) in
    let one = and_parts _ _ (sym (and_has w (v / 2) k) ∙ two.0) in
    pair_by w v k (even_or_odd k).0 l one.0 one.1 two.1 (even_or_odd k).1

pub below_half : (w f : ℕ) → w < 2 ^ 64 → word_has w (2 * f + 1) ≡ true → f < 32
below_half w f fits a = by (past_or_within (2 * f + 1))
  where
    by : (2 * f + 1 < 64) ⊎ (64 ≤ 2 * f + 1) → f < 32
    by (inl l) = omega arith
    by (inr m) = absurd (both_ways _ (none_past w (2 * f + 1) fits m) a)

pair_found : (w v f : ℕ) → v < 2 ^ 64 → word_has w (2 * f) ≡ true → word_has v (2 * f + 1) ≡ true → word_has (bit_and (bit_and w (v / 2)) 6148914691236517205) (2 * f) ≡ true
pair_found w v f fits a b =
    and_has (bit_and w (v / 2)) 6148914691236517205 (2 * f) ∙ and_from _ _
    (and_has w (v / 2) (2 * f) ∙ and_from _ _ a (shifted v (2 * f) ∙ b))
    (even_mask f (below_half v f fits b))

pub pair_test : (w v : ℕ) → v < 2 ^ 64 → bit_and (bit_and w (v / 2)) 6148914691236517205 < 2 ^ 64 → (t : Bool) → t ≡ (bit_and (bit_and w (v / 2)) 6148914691236517205 == 0) → IsPairAcross (word_has w) (word_has v) (not t)
pair_test w v fits small true e =
    let zero : bit_and (bit_and w (v / 2)) 6148914691236517205 ≡ 0 = grind (arith, nat_tests) in
    λ f a b. both_ways _ (ap (λ (n : ℕ). word_has n (2 * f)) zero ∙ zero_has (2 * f)) (pair_found w v f fits a b)
pair_test w v fits small false e =
    let positive : 0 < bit_and (bit_and w (v / 2)) 6148914691236517205 = grind (arith, nat_tests) in
    let low = bit_at-trailing_zeros w64 (bit_and (bit_and w (v / 2)) 6148914691236517205) positive small in
    pair_at w v _ low.0 (ap (λ (n : ℕ). n == 1) low.1)
