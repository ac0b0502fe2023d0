-- Rows that have the same bits are the same.
use Rattle.std.proofs.Common.{arith, ◌≡◌, ◌==◌, ℕ, zero, suc, ◌+◌, ◌-◌, ◌*◌, ◌/◌, ◌%◌, ◌^◌, ◌<◌, ◌≤◌, List, [], ◌∷◌, Bool, false, length, take, drop, get_or, refl, sym, ap, ◌∙◌, ◌⊎◌, inl, inr}
use Rattle.std.specs.Prelude.{slice_index}
use Rattle.std.specs.Int.{bit_at}
use Rattle.std.proofs.lemmas.Bool.{cases_lt}
use Rattle.std.proofs.lemmas.Bool.Decides.{nat_tests}
use Rattle.std.proofs.lemmas.List.{get_or_past, length-take}
use Rattle.std.proofs.lemmas.List.FromFn.{get_or-map-range_with_len, length-map-range_with_len}
use Rattle.std.proofs.lemmas.Nat.Bits.{bit_at-lt, bit_at-zero, bit_at_cat_high, same_from_bits}
use Rattle.bit_sets.specs.Rows.{row_has, word_has}
use Rattle.bit_sets.proofs.published.WordLaw.{zero_has}
use Rattle.state_store.specs.Packed.{packed, unpacked, width_of, IsPacked}
use Rattle.state_store.proofs.PackLaw.{length-packed, number_small, packed_has}
pub use Rattle.state_store.proofs.PackLaw.{width_holds}

-- each word is one of 64 bits
abbrev pub AreWords : List ℕ → Type 0
AreWords row = (j : ℕ) → get_or row j 0 < 2 ^ 64

high_bit : (word bit : ℕ) → word < 2 ^ 64 → 64 ≤ bit → bit_at word bit ≡ 0
high_bit word bit lt le =
    let z : word ≡ 0 * 2 ^ 64 + word = omega arith in
    ap (λ (n : ℕ). bit_at n bit) z ∙ bit_at_cat_high 0 64 word bit lt le ∙ bit_at-zero (bit - 64)

same_bit : (x y : ℕ) → x < 2 → y < 2 → (x == 1) ≡ (y == 1) → x ≡ y
same_bit x y a b same = grind (arith, nat_tests)

words_same : (word other : ℕ) → word < 2 ^ 64 → other < 2 ^ 64 → ((bit : ℕ) → bit < 64 → word_has word bit ≡ word_has other bit) → word ≡ other
words_same word other small few same = same_from_bits word other by
  where
    by : (bit : ℕ) → bit_at word bit ≡ bit_at other bit
    by bit = elim (cases_lt bit 64) [
      | inl lt ↦ same_bit (bit_at word bit) (bit_at other bit) (bit_at-lt word bit) (bit_at-lt other bit) (same bit lt)
      | inr le ↦ high_bit word bit small le ∙ sym (high_bit other bit few le)
    ]

head_bit : (word : ℕ) (row : List ℕ) (bit : ℕ) → bit < 64 → row_has (word ∷ row) bit ≡ word_has word bit
head_bit word row bit lt =
    let place : bit / 64 ≡ 0 = omega (arith, lt) in
    let own : bit % 64 ≡ bit = omega (arith, lt) in
    ap (λ (q : ℕ). word_has (slice_index (word ∷ row) q) (bit % 64)) place ∙ ap (word_has word) own

tail_bit : (word : ℕ) (row : List ℕ) (bit : ℕ) → row_has (word ∷ row) (64 + bit) ≡ row_has row bit
tail_bit word row bit =
    let place : (64 + bit) / 64 ≡ suc (bit / 64) = omega arith in
    let own : (64 + bit) % 64 ≡ bit % 64 = omega arith in
    ap (λ (q : ℕ). word_has (slice_index (word ∷ row) q) ((64 + bit) % 64)) place ∙ ap (word_has (slice_index row (bit / 64))) own

rows_same : (row other : List ℕ) → length row ≡ length other → AreWords row → AreWords other → ((bit : ℕ) → row_has row bit ≡ row_has other bit) → row ≡ other
rows_same [] [] long small few same = refl
rows_same [] (w ∷ other) long small few same = absurd (omega (arith, long))
rows_same (w ∷ row) [] long small few same = absurd (omega (arith, long))
rows_same (w ∷ row) (v ∷ other) long small few same =
    let one : w ≡ v = words_same w v (small 0) (few 0) (λ bit lt. sym (head_bit w row bit lt) ∙ same bit ∙ head_bit v other bit lt) in
    let rest : row ≡ other = rows_same row other (omega (arith, long)) (λ j. small (suc j)) (λ j. few (suc j)) (λ bit. sym (tail_bit w row bit) ∙ same (64 + bit) ∙ tail_bit v other bit) in
    ap (λ (x : ℕ). x ∷ row) one ∙ ap (λ (xs : List ℕ). v ∷ xs) rest

packed_words : (n : ℕ) (values : List Bool) → AreWords (packed n values)
packed_words zero values j = omega arith
packed_words (suc n) values zero = number_small (take 64 values) 64 (let l = length-take 64 values in omega (arith, l))
packed_words (suc n) values (suc j) = packed_words n (drop 64 values) j

-- past its words a row has no bits
past_row : (row : List ℕ) (bit : ℕ) → 64 * length row ≤ bit → row_has row bit ≡ false
past_row row bit le =
    let none : slice_index row (bit / 64) ≡ 0 = get_or_past row (bit / 64) 0 (omega (arith, le)) in
    ap (λ (w : ℕ). word_has w (bit % 64)) none ∙ zero_has (bit % 64)

-- a truth value for which a row stands is its bit
pub value_at : (facts : ℕ) (row : List ℕ) (f : ℕ) → f < facts → get_or (unpacked facts row) f false ≡ row_has row f
value_at facts row f lt = get_or-map-range_with_len (row_has row) 0 facts f f false lt (omega arith)

pub length-unpacked : (facts : ℕ) (row : List ℕ) → length (unpacked facts row) ≡ facts
length-unpacked facts row = length-map-range_with_len (row_has row) 0 facts

-- a row of the width for so many facts that has no bits past these is that of a state
module _ (facts : ℕ) (row : List ℕ) (long : length row ≡ width_of facts) (none : (f : ℕ) → facts ≤ f → row_has row f ≡ false) where
  abbrev values : List Bool
  values = unpacked facts row

  abbrev other : List ℕ
  other = packed (width_of facts) values

  inside : (bit : ℕ) → bit < 64 * width_of facts → (bit < facts) ⊎ (facts ≤ bit) → row_has other bit ≡ row_has row bit
  inside bit lt (inl low) = packed_has (width_of facts) values bit lt ∙ value_at facts row bit low
  inside bit lt (inr high) = packed_has (width_of facts) values bit lt ∙ get_or_past values bit false (let l = length-unpacked facts row in omega (arith, l, high)) ∙ sym (none bit high)

  bits_same : (bit : ℕ) → row_has row bit ≡ row_has other bit
  bits_same bit = elim (cases_lt bit (64 * width_of facts)) [
    | inl lt ↦ sym (inside bit lt (cases_lt bit facts))
    | inr le ↦ past_row row bit (omega (arith, le, long)) ∙ sym (past_row other bit (let l = length-packed (width_of facts) values in omega (arith, le, l)))
  ]

  pub packed_if : AreWords row → IsPacked facts row
  packed_if words = rows_same row other (long ∙ sym (length-packed (width_of facts) values)) words (packed_words (width_of facts) values) bits_same

-- a state's row has no bits past the facts
pub none_past : (facts : ℕ) (row : List ℕ) → IsPacked facts row → (f : ℕ) → facts ≤ f → row_has row f ≡ false
none_past facts row is f le = elim (cases_lt f (64 * width_of facts)) [
  | inl lt ↦ ap (λ (xs : List ℕ). row_has xs f) is ∙ packed_has (width_of facts) (unpacked facts row) f lt ∙ get_or_past (unpacked facts row) f false (let l = length-unpacked facts row in omega (arith, l, le))
  | inr past ↦ past_row row f (let l = ap length is ∙ length-packed (width_of facts) (unpacked facts row) in omega (arith, l, past))
]

pub length-row : (facts : ℕ) (row : List ℕ) → IsPacked facts row → length row ≡ width_of facts
length-row facts row is = ap length is ∙ length-packed (width_of facts) (unpacked facts row)
