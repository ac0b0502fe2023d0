-- What is packed and unpacked is the same again.
use Rattle.std.proofs.Common.{arith, ◌≡◌, ◌==◌, append_assoc, ℕ, zero, suc, ◌+◌, ◌-◌, ◌*◌, ◌/◌, ◌%◌, ◌^◌, ◌<◌, ◌≤◌, min, List, [], ◌∷◌, ◌++◌, Bool, true, false, length, take, drop, get_or, refl, sym, ap, ◌∙◌, ◌⊎◌, inl, inr}
use Rattle.std.specs.Prelude.{slice_index}
use Rattle.std.proofs.Math.Nat.{two-pow-succ, pow-le-pow_right}
use Rattle.std.proofs.lemmas.Bool.{cases_lt}
use Rattle.std.proofs.lemmas.List.{get_or-take, get_or-drop, take_all}
use Rattle.std.proofs.lemmas.List.FromFn.{fill_by_all}
use Rattle.std.proofs.lemmas.Nat.Bits.{bit_at-suc, bit_at_lowest}
use mir.Val.{bool_byte}
use Rattle.bit_sets.specs.Rows.{row_has, word_has}
use Rattle.bit_sets.proofs.published.WordLaw.{zero_has}
use Rattle.state_store.specs.Packed.{number_of, packed, unpacked, width_of, IsPacked}

number_less : (values : List Bool) → number_of values < 2 ^ length values
number_less [] = omega arith
number_less (true ∷ values) =
    let h = number_less values in
    let p = two-pow-succ (length values) in
    omega (arith, h, p)
number_less (false ∷ values) =
    let h = number_less values in
    let p = two-pow-succ (length values) in
    omega (arith, h, p)

pub number_small : (values : List Bool) (n : ℕ) → length values ≤ n → number_of values < 2 ^ n
number_small values n le =
    let h = number_less values in
    let m : 2 ^ length values ≤ 2 ^ n = pow-le-pow_right {n = 2} (omega arith) le in
    omega (arith, h, m)

-- the bits of a number are the truth values
number_has : (values : List Bool) (k : ℕ) → word_has (number_of values) k ≡ get_or values k false
number_has [] k = zero_has k
number_has (true ∷ values) zero =
    let odd : (2 * number_of values + 1) % 2 ≡ 1 = omega arith in
    ap (λ (n : ℕ). n == 1) (bit_at_lowest (2 * number_of values + 1) ∙ odd)
number_has (false ∷ values) zero =
    let even : (2 * number_of values) % 2 ≡ 0 = omega arith in
    ap (λ (n : ℕ). n == 1) (bit_at_lowest (2 * number_of values) ∙ even)
number_has (true ∷ values) (suc k) =
    let half : (2 * number_of values + 1) / 2 ≡ number_of values = omega arith in
    ap (λ (n : ℕ). n == 1) (bit_at-suc (2 * number_of values + 1) k) ∙ ap (λ (m : ℕ). word_has m k) half ∙ number_has values k
number_has (false ∷ values) (suc k) =
    let half : (2 * number_of values) / 2 ≡ number_of values = omega arith in
    ap (λ (n : ℕ). n == 1) (bit_at-suc (2 * number_of values) k) ∙ ap (λ (m : ℕ). word_has m k) half ∙ number_has values k

pub length-packed : (n : ℕ) (values : List Bool) → length (packed n values) ≡ n
length-packed zero values = refl
length-packed (suc n) values = ap suc (length-packed n (drop 64 values))

-- the bits of a row are the truth values
pub packed_has : (n : ℕ) (values : List Bool) (k : ℕ) → k < 64 * n → row_has (packed n values) k ≡ get_or values k false
packed_has zero values k lt = absurd (omega (arith, lt))
packed_has (suc n) values k lt = by (cases_lt k 64) (packed_has n (drop 64 values))
  where
    by : (k < 64) ⊎ (64 ≤ k) → ((j : ℕ) → j < 64 * n → row_has (packed n (drop 64 values)) j ≡ get_or (drop 64 values) j false) → row_has (packed (suc n) values) k ≡ get_or values k false
    by (inl low) rest =
        let place : k / 64 ≡ 0 = omega (arith, low) in
        let bit : k % 64 ≡ k = omega (arith, low) in
        ap (λ (q : ℕ). word_has (slice_index (packed (suc n) values) q) (k % 64)) place
        ∙ ap (word_has (number_of (take 64 values))) bit
        ∙ number_has (take 64 values) k
        ∙ get_or-take 64 values k false low
    by (inr high) rest =
        let place : k / 64 ≡ suc ((k - 64) / 64) = omega (arith, high) in
        let bit : k % 64 ≡ (k - 64) % 64 = omega (arith, high) in
        let past : 64 + (k - 64) ≡ k = omega (arith, high) in
        ap (λ (q : ℕ). word_has (slice_index (packed (suc n) values) q) (k % 64)) place
        ∙ ap (word_has (slice_index (packed n (drop 64 values)) ((k - 64) / 64))) bit
        ∙ rest (k - 64) (omega (arith, lt, high))
        ∙ get_or-drop 64 values (k - 64) false
        ∙ ap (λ (j : ℕ). get_or values j false) past

pub width_holds : (facts : ℕ) → facts ≤ 64 * width_of facts
width_holds facts = grind arith

pub width_some : (facts : ℕ) → 0 < width_of facts
width_some facts = grind arith

pub width_few : (facts : ℕ) → facts ≤ 2147483647 → width_of facts ≤ 33554432
width_few facts few = grind (arith, few)

-- what is packed stands for its truth values
pub unpacks : (facts : ℕ) (values : List Bool) → length values ≡ facts → unpacked facts (packed (width_of facts) values) ≡ values
unpacks facts values long =
    sym (
    fill_by_all (row_has (packed (width_of facts) values)) values facts false long
    (λ k lt. sym (packed_has (width_of facts) values k (let h = width_holds facts in omega (arith, lt, h))))
    )

pub is_packed : (facts : ℕ) (values : List Bool) → length values ≡ facts → IsPacked facts (packed (width_of facts) values)
is_packed facts values long = ap (packed (width_of facts)) (sym (unpacks facts values long))

-- the first 64 truth values, and the others, where there may be fewer
pub first_part : (values : List Bool) → take (min (length values) 64) values ≡ take 64 values
first_part values = by (cases_lt (length values) 64)
  where
    by : (length values < 64) ⊎ (64 ≤ length values) → take (min (length values) 64) values ≡ take 64 values
    by (inl few) =
        let m : min (length values) 64 ≡ length values = omega (arith, few) in
        ap (λ (n : ℕ). take n values) m ∙ take_all (length values) values (omega arith) ∙ sym (take_all 64 values (omega (arith, few)))
    by (inr many) = let m : min (length values) 64 ≡ 64 = omega (arith, many) in ap (λ (n : ℕ). take n values) m

drop_past : (n : ℕ) (values : List Bool) → length values ≤ n → drop n values ≡ []
drop_past zero [] le = refl
drop_past zero (b ∷ values) le = absurd (omega (arith, le))
drop_past (suc n) [] le = refl
drop_past (suc n) (b ∷ values) le = drop_past n values (omega (arith, le))

pub other_part : (values : List Bool) → drop (min (length values) 64) values ≡ drop 64 values
other_part values = by (cases_lt (length values) 64)
  where
    by : (length values < 64) ⊎ (64 ≤ length values) → drop (min (length values) 64) values ≡ drop 64 values
    by (inl few) =
        let m : min (length values) 64 ≡ length values = omega (arith, few) in
        ap (λ (n : ℕ). drop n values) m ∙ drop_past (length values) values (omega arith) ∙ sym (drop_past 64 values (omega (arith, few)))
    by (inr many) = let m : min (length values) 64 ≡ 64 = omega (arith, many) in ap (λ (n : ℕ). drop n values) m

-- one more word
pub pack_more : (width done : ℕ) (row now : List ℕ) (rest part more values : List Bool) (number : ℕ) → done < width → now ≡ row ++ number ∷ [] → number ≡ number_of part
    → part ≡ take (min (length rest) 64) rest → more ≡ drop (min (length rest) 64) rest → row ++ packed (width - done) rest ≡ packed width values
    → now ++ packed (width - (done + 1)) more ≡ packed width values
pack_more width done row now rest part more values number lt pushed is front back before =
    let left : width - done ≡ suc (width - (done + 1)) = omega (arith, lt) in
    let own : number ≡ number_of (take 64 rest) = is ∙ ap number_of (front ∙ first_part rest) in
    ap (λ (xs : List ℕ). xs ++ packed (width - (done + 1)) more) pushed
    ∙ append_assoc row (number ∷ []) (packed (width - (done + 1)) more)
    ∙ ap (λ (n : ℕ). row ++ n ∷ packed (width - (done + 1)) more) own
    ∙ ap (λ (xs : List Bool). row ++ number_of (take 64 rest) ∷ packed (width - (done + 1)) xs) (back ∙ other_part rest)
    ∙ ap (λ (n : ℕ). row ++ packed n rest) (sym left)
    ∙ before

pub digit_small : (b : Bool) → bool_byte b < 2
digit_small true = omega arith
digit_small false = omega arith
