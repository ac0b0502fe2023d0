use Rattle.std.proofs.Common.{arith, ◌≡◌, ◌≢◌, ◌==◌, ℕ, ◌+◌, ◌*◌, ◌/◌, ◌%◌, ◌<◌, ◌≤◌, List, length, get_or, set, Bool, true, false, not, ◌&&◌, ◌||◌, refl, sym, ap, ◌∙◌, ◌⊎◌, inl, inr, Some, get_or-set_same, get_or-set_other}
use Rattle.std.specs.Prelude.{nat_le, nat_lt}
use Rattle.std.proofs.lemmas.Bool.Decides.{nat_tests}
use Rattle.bit_sets.specs.own.Words.{IsLeast}
use Rattle.bit_sets.specs.Rows.{word_has, row_has, IsLeastFrom}
use Rattle.bit_sets.proofs.published.WordLaw.{zero_has}
use Rattle.bit_sets.proofs.Changed.{IsChanged, changed_bit}

-- Rows, word by word.

-- the words of a row up to a place were joined with those of another
pub record IsJoinedTo (op : Bool → Bool → Bool) (before others : List ℕ) (upto : ℕ) (after : List ℕ) : Type 0 where
  pub long : length after ≡ length before
  pub done : (j k : ℕ) → j < upto → word_has (get_or after j 0) k ≡ op (word_has (get_or before j 0) k) (word_has (get_or others j 0) k)
  pub left : (j : ℕ) → upto ≤ j → get_or after j 0 ≡ get_or before j 0

-- no number from one on, in the words up to a place, is in both rows
abbrev pub NoneCommon : List ℕ → List ℕ → ℕ → ℕ → Type 0
NoneCommon words others from upto = (k : ℕ) → from ≤ k → k / 64 < upto → (row_has words k && row_has others k) ≡ false

same_or_apart : (m n : ℕ) → (m ≡ n) ⊎ (m ≢ n)
same_or_apart m n = grind arith

-- none is in a word that is 0 either
pub zero_word : (words others : List ℕ) (from place w : ℕ) → ((k : ℕ) → word_has w k ≡ (word_has (get_or words place 0) k && word_has (get_or others place 0) k)) → w ≡ 0 → NoneCommon words others from place → NoneCommon words others from (place + 1)
zero_word words others from place w c z none k f l = by (same_or_apart (k / 64) place)
  where
    by : (k / 64 ≡ place) ⊎ (k / 64 ≢ place) → (row_has words k && row_has others k) ≡ false
    by (inl e) =
        ap (λ (n : ℕ). word_has (get_or words n 0) (k % 64) && word_has (get_or others n 0) (k % 64)) e
        ∙ sym (c (k % 64)) ∙ ap (λ (v : ℕ). word_has v (k % 64)) z ∙ zero_has (k % 64)
    by (inr d) = none k f (omega arith)

-- the words of a row up to a place were changed, one more of them is
pub changed_more : (words : List ℕ) (i w : ℕ) (has : ℕ → ℕ → Bool) → i < length words → ((k : ℕ) → word_has w k ≡ has i k) → ((j k : ℕ) → j < i → word_has (get_or words j 0) k ≡ has j k) → (j k : ℕ) → j < i + 1 → word_has (get_or (set words i w) j 0) k ≡ has j k
changed_more words i w has inside here before j k h = by (same_or_apart j i)
  where
    by : (j ≡ i) ⊎ (j ≢ i) → word_has (get_or (set words i w) j 0) k ≡ has j k
    by (inl e) =
        ap (λ (n : ℕ). word_has (get_or (set words i w) n 0) k) e
        ∙ ap (λ (v : ℕ). word_has v k) (get_or-set_same words i w 0 inside)
        ∙ here k ∙ ap (λ (n : ℕ). has n k) (sym e)
    by (inr d) = ap (λ (v : ℕ). word_has v k) (get_or-set_other words i j w 0 d) ∙ before j k (omega (arith, h, d))

-- and those after it are left
pub left_more : (words before : List ℕ) (i w : ℕ) → ((j : ℕ) → i ≤ j → get_or words j 0 ≡ get_or before j 0) → (j : ℕ) → i + 1 ≤ j → get_or (set words i w) j 0 ≡ get_or before j 0
left_more words before i w left j h = let d : j ≢ i = omega (arith, h) in get_or-set_other words i j w 0 d ∙ left j (omega (arith, h))

or_none : (b : Bool) → b ≡ (b || false)
or_none true = refl
or_none false = refl

-- bits were put into the words up to a place
pub put_before : (words before : List ℕ) (more : ℕ → ℕ → Bool) (end i : ℕ) → end ≤ i → i ≤ end → ((j k : ℕ) → j < i → word_has (get_or words j 0) k ≡ (word_has (get_or before j 0) k || more j k)) → ((j : ℕ) → i ≤ j → get_or words j 0 ≡ get_or before j 0) → (k : ℕ) → row_has words k ≡ (row_has before k || (nat_lt (k / 64) end && more (k / 64) (k % 64)))
put_before words before more end i ge le done left k = by (nat_lt (k / 64) end) refl
  where
    by : (b : Bool) → nat_lt (k / 64) end ≡ b → row_has words k ≡ (row_has before k || (b && more (k / 64) (k % 64)))
    by true e = let h : k / 64 < end = grind (arith, nat_tests) in done (k / 64) (k % 64) (omega (arith, h, ge))
    by false e = let h : end ≤ k / 64 = grind (arith, nat_tests) in ap (λ (w : ℕ). word_has w (k % 64)) (left (k / 64) (omega (arith, h, le))) ∙ or_none (row_has before k)

equals : (m n : ℕ) → m ≡ n → (m == n) ≡ true
equals m n e = grind (arith, nat_tests)

differs : (m n : ℕ) → (m ≡ n → ⊥) → (m == n) ≡ false
differs m n d = let ne : m ≢ n = d in grind (arith, nat_tests)

-- a bit is set, or cleared
pub set_one : (words : List ℕ) (n w : ℕ) → n < 64 * length words → word_has w (n % 64) ≡ true → ((k : ℕ) → (k ≡ n % 64 → ⊥) → word_has w k ≡ word_has (get_or words (n / 64) 0) k) → (k : ℕ) → row_has (set words (n / 64) w) k ≡ ((n == k) || row_has words k)
set_one words n w inside same others k = by (changed_bit words n w true inside same others k)
  where
    by : IsChanged words (set words (n / 64) w) n true k → row_has (set words (n / 64) w) k ≡ ((n == k) || row_has words k)
    by (inl h) = h.1 ∙ ap (λ (b : Bool). b || row_has words k) (sym (equals n k h.0))
    by (inr h) = h.1 ∙ ap (λ (b : Bool). b || row_has words k) (sym (differs n k h.0))

pub clear_one : (words : List ℕ) (n w : ℕ) → n < 64 * length words → word_has w (n % 64) ≡ false → ((k : ℕ) → (k ≡ n % 64 → ⊥) → word_has w k ≡ word_has (get_or words (n / 64) 0) k) → (k : ℕ) → row_has (set words (n / 64) w) k ≡ (not (n == k) && row_has words k)
clear_one words n w inside same others k = by (changed_bit words n w false inside same others k)
  where
    by : IsChanged words (set words (n / 64) w) n false k → row_has (set words (n / 64) w) k ≡ (not (n == k) && row_has words k)
    by (inl h) = h.1 ∙ ap (λ (b : Bool). not b && row_has words k) (sym (equals n k h.0))
    by (inr h) = h.1 ∙ ap (λ (b : Bool). not b && row_has words k) (sym (differs n k h.0))

left_true : (a b : Bool) → (a && b) ≡ true → a ≡ true
left_true true b e = refl
left_true false b e = e

right_true : (a b : Bool) → (a && b) ≡ true → b ≡ true
right_true true b e = e
right_true false b e = absurd (let w : ⊥ = cc in w)

at_word : (words others : List ℕ) (i b : ℕ) → b < 64 → (row_has words (64 * i + b) && row_has others (64 * i + b)) ≡ (word_has (get_or words i 0) b && word_has (get_or others i 0) b)
at_word words others i b h =
    let q : (64 * i + b) / 64 ≡ i = omega (arith, h) in
    let r : (64 * i + b) % 64 ≡ b = omega (arith, h) in
    ap (λ (n : ℕ). word_has (get_or words n 0) ((64 * i + b) % 64) && word_has (get_or others n 0) ((64 * i + b) % 64)) q ∙ ap (λ (n : ℕ). word_has (get_or words i 0) n && word_has (get_or others i 0) n) r

-- the least number from one on is in the first word
pub found_first : (words others : List ℕ) (from bit w v : ℕ) → bit < 64 → ((k : ℕ) → word_has v k ≡ (word_has (get_or words (from / 64) 0) k && word_has (get_or others (from / 64) 0) k)) → ((k : ℕ) → word_has w k ≡ (nat_le (from % 64) k && word_has v k)) → IsLeast (word_has w) (Some bit) → IsLeastFrom (λ k. row_has words k && row_has others k) from (Some (64 * (from / 64) + bit))
found_first words others from bit w v small both low least = (omega (arith, bit_low), at_word words others (from / 64) bit small ∙ sym (both bit) ∙ right_true _ _ known, before)
  where
    known : (nat_le (from % 64) bit && word_has v bit) ≡ true
    known = sym (low bit) ∙ least.0

    bit_low : from % 64 ≤ bit
    bit_low = let t : nat_le (from % 64) bit ≡ true = left_true _ _ known in grind (arith, nat_tests)

    before : (j : ℕ) → from ≤ j → j < 64 * (from / 64) + bit → (row_has words j && row_has others j) ≡ false
    before j f h =
        let q : j / 64 ≡ from / 64 = omega (arith, f, h, small) in
        let r : j % 64 < bit = omega (arith, h, q) in
        let s : from % 64 ≤ j % 64 = omega (arith, f, q) in
        let t : nat_le (from % 64) (j % 64) ≡ true = grind (arith, nat_tests) in
        ap (λ (n : ℕ). word_has (get_or words n 0) (j % 64) && word_has (get_or others n 0) (j % 64)) q
        ∙ sym (both (j % 64)) ∙ ap (λ (b : Bool). b && word_has v (j % 64)) (sym t) ∙ sym (low (j % 64)) ∙ least.1 (j % 64) r

-- none is in it
pub first_none : (words others : List ℕ) (from w v : ℕ) → ((k : ℕ) → word_has v k ≡ (word_has (get_or words (from / 64) 0) k && word_has (get_or others (from / 64) 0) k)) → ((k : ℕ) → word_has w k ≡ (nat_le (from % 64) k && word_has v k)) → w ≡ 0 → NoneCommon words others from (from / 64 + 1)
first_none words others from w v both low zero k f h =
    let q : k / 64 ≡ from / 64 = omega (arith, f, h) in
    let s : from % 64 ≤ k % 64 = omega (arith, f, q) in
    let t : nat_le (from % 64) (k % 64) ≡ true = grind (arith, nat_tests) in
    ap (λ (n : ℕ). word_has (get_or words n 0) (k % 64) && word_has (get_or others n 0) (k % 64)) q
    ∙ sym (both (k % 64)) ∙ ap (λ (b : Bool). b && word_has v (k % 64)) (sym t) ∙ sym (low (k % 64)) ∙ ap (λ (u : ℕ). word_has u (k % 64)) zero ∙ zero_has (k % 64)

-- it is in a later word
pub found_later : (words others : List ℕ) (from i bit w : ℕ) → from / 64 < i → bit < 64 → ((k : ℕ) → word_has w k ≡ (word_has (get_or words i 0) k && word_has (get_or others i 0) k)) → IsLeast (word_has w) (Some bit) → NoneCommon words others from i → IsLeastFrom (λ k. row_has words k && row_has others k) from (Some (64 * i + bit))
found_later words others from i bit w past small both least none = (omega (arith, past), at_word words others i bit small ∙ sym (both bit) ∙ least.0, λ j f h. before j f h (same_or_apart (j / 64) i))
  where
    before : (j : ℕ) → from ≤ j → j < 64 * i + bit → (j / 64 ≡ i) ⊎ (j / 64 ≢ i) → (row_has words j && row_has others j) ≡ false
    before j f h (inl e) = ap (λ (n : ℕ). word_has (get_or words n 0) (j % 64) && word_has (get_or others n 0) (j % 64)) e ∙ sym (both (j % 64)) ∙ least.1 (j % 64) (omega (arith, h, e))
    before j f h (inr d) = none j f (omega (arith, h, d, small))
