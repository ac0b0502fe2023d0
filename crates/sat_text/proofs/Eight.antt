-- Eight digits as the bytes of a number.
use Rattle.std.proofs.Common.{◌≡◌, ◌∙◌, ◌<◌, ◌≤◌, ◌+◌, ◌*◌, ◌-◌, ◌/◌, ◌%◌, ◌^◌, ◌++◌, ℕ, zero, suc, Bool, true, false, List, [], ◌∷◌, length, map, take, drop, get_or, replicate, fold, refl, sym, ap, subst, arith, w8, w64, Fits}
use Rattle.std.specs.Char.{is_ascii_digit}
use Rattle.std.specs.Int.{from_le_bytes}
use Rattle.std.specs.List.{list_all}
use Rattle.std.specs.Simd.Lanes.{number_l, Each1}
use Rattle.std.proofs.Math.Nat.{mul_assoc}
use Rattle.std.proofs.Math.Seq.{drop-cons}
use Rattle.std.proofs.lemmas.List.{drop_all}
use Rattle.std.proofs.lemmas.Simd.{Each1-replicate}
use Rattle.sat_text.specs.Words.{value_of, value_with}
use Rattle.sat_text.specs.own.Short.{eight_of, told_by}
use Rattle.sat_text.proofs.FewDigits.{digit_least, digit_most}

abbrev number : List ℕ → ℕ
number bytes = number_l 256 bytes

-- 256 to a power
abbrev power : ℕ → ℕ
power zero = 1
power (suc n) = 256 * power n

-- ---- the bytes of a number

-- the items from one on, so many
abbrev from : ℕ → ℕ → List ℕ → List ℕ
from i zero items = []
from i (suc n) items = get_or items i 0 ∷ from (suc i) n items

listed : (n i : ℕ) (items : List ℕ) → length items ≡ i + n → drop i items ≡ from i n items
listed zero i items long = drop_all i items (omega (arith, long))
listed (suc n) i items long = drop-cons items i 0 (omega (arith, long)) ∙ ap (λ (more : List ℕ). get_or items i 0 ∷ more) (listed n (suc i) items (omega (arith, long)))

-- what eight bytes are as a number
word_is : (bytes : List ℕ) → length bytes ≡ 8 → from_le_bytes w64 bytes ≡ number bytes
word_is bytes long =
    let g = λ (i : ℕ). get_or bytes i 0 in
    let is : bytes ≡ from 0 8 bytes = listed 8 0 bytes (omega (arith, long)) in
    let same : g 0 + g 1 * 256 + g 2 * 65536 + g 3 * 16777216 + g 4 * 4294967296 + g 5 * 1099511627776 + g 6 * 281474976710656 + g 7 * 72057594037927936
    ≡ g 0 + 256 * (g 1 + 256 * (g 2 + 256 * (g 3 + 256 * (g 4 + 256 * (g 5 + 256 * (g 6 + 256 * (g 7 + 256 * 0))))))) = omega arith in
    same ∙ ap (λ (items : List ℕ). number items) (sym is)

-- the first of them and the others
parts : (c : ℕ) (bytes : List ℕ) → number bytes ≡ number (take c bytes) + power c * number (drop c bytes)
parts zero bytes = let same : number bytes ≡ 0 + 1 * number bytes = omega arith in same
parts (suc c) [] = let same : 0 ≡ 0 + power (suc c) * 0 = omega arith in same
parts (suc c) (b ∷ bytes) =
    let more = parts c bytes in
    let product : 256 * power c * number (drop c bytes) ≡ 256 * (power c * number (drop c bytes)) = mul_assoc 256 (power c) (number (drop c bytes)) in
    let same : b + 256 * number bytes ≡ b + 256 * number (take c bytes) + 256 * power c * number (drop c bytes) = omega (arith, more, product) in same

first_small : (c : ℕ) (bytes : List ℕ) → Each1 (Fits w8) bytes → number (take c bytes) < power c
first_small zero bytes fits = let small : 0 < 1 = omega arith in small
first_small (suc c) [] fits = let more = first_small c [] fits in let small : 0 < 256 * power c = omega (arith, more) in small
first_small (suc c) (b ∷ bytes) fits =
    let more = first_small c bytes fits.1 in
    let byte : b < 256 = fits.0.fits in
    let small : b + 256 * number (take c bytes) < 256 * power c = omega (arith, more, byte) in small

-- zeros before others
zeros : (n : ℕ) (bytes : List ℕ) → number (replicate n 0 ++ bytes) ≡ power n * number bytes
zeros zero bytes = let same : number bytes ≡ 1 * number bytes = omega arith in same
zeros (suc n) bytes =
    let same : 0 + 256 * (power n * number bytes) ≡ 256 * (power n * number bytes) = omega arith in
    ap (λ (k : ℕ). 0 + 256 * k) (zeros n bytes) ∙ same ∙ sym (mul_assoc 256 (power n) (number bytes))

-- what is shifted out is gone, and zeros come in
up : (c : ℕ) (low : List ℕ) (high : ℕ) → 0 < c → c < 8 → number low < power c → (number low + power c * high) * 2 ^ (64 - 8 * c) % 2 ^ 64 ≡ number (replicate (8 - c) 0 ++ low)
up zero low high some few small = absurd (omega (arith, some))
up (suc zero) low high some few small =
    let s : number low < 256 = small in
    let is : (number low + 256 * high) * 72057594037927936 % 18446744073709551616 ≡ 72057594037927936 * number low = omega (arith, s) in is ∙ sym (zeros 7 low)
up (suc (suc zero)) low high some few small =
    let s : number low < 65536 = small in
    let is : (number low + 65536 * high) * 281474976710656 % 18446744073709551616 ≡ 281474976710656 * number low = omega (arith, s) in is ∙ sym (zeros 6 low)
up (suc (suc (suc zero))) low high some few small =
    let s : number low < 16777216 = small in
    let is : (number low + 16777216 * high) * 1099511627776 % 18446744073709551616 ≡ 1099511627776 * number low = omega (arith, s) in is ∙ sym (zeros 5 low)
up (suc (suc (suc (suc zero)))) low high some few small =
    let s : number low < 4294967296 = small in
    let is : (number low + 4294967296 * high) * 4294967296 % 18446744073709551616 ≡ 4294967296 * number low = omega (arith, s) in is ∙ sym (zeros 4 low)
up (suc (suc (suc (suc (suc zero))))) low high some few small =
    let s : number low < 1099511627776 = small in
    let is : (number low + 1099511627776 * high) * 16777216 % 18446744073709551616 ≡ 16777216 * number low = omega (arith, s) in is ∙ sym (zeros 3 low)
up (suc (suc (suc (suc (suc (suc zero)))))) low high some few small =
    let s : number low < 281474976710656 = small in
    let is : (number low + 281474976710656 * high) * 65536 % 18446744073709551616 ≡ 65536 * number low = omega (arith, s) in is ∙ sym (zeros 2 low)
up (suc (suc (suc (suc (suc (suc (suc zero))))))) low high some few small =
    let s : number low < 72057594037927936 = small in
    let is : (number low + 72057594037927936 * high) * 256 % 18446744073709551616 ≡ 256 * number low = omega (arith, s) in is ∙ sym (zeros 1 low)
up (suc (suc (suc (suc (suc (suc (suc (suc c)))))))) low high some few small = absurd (omega (arith, few))

shifted : (bytes : List ℕ) (c : ℕ) → length bytes ≡ 8 → Each1 (Fits w8) bytes → 0 < c → c < 8 → from_le_bytes w64 bytes * 2 ^ (64 - 8 * c) % 2 ^ 64 ≡ number_l 256 (replicate (8 - c) 0 ++ take c bytes)
shifted bytes c long fits some few =
    ap (λ (n : ℕ). n * 2 ^ (64 - 8 * c) % 2 ^ 64) (word_is bytes long ∙ parts c bytes) ∙ up c (take c bytes) (number (drop c bytes)) some few (first_small c bytes fits)

-- so is 48 in eight bytes
shifted_48 : (c : ℕ) → 0 < c → c < 8 → 3472328296227680304 * 2 ^ (64 - 8 * c) % 2 ^ 64 ≡ number_l 256 (replicate (8 - c) 0 ++ take c (replicate 8 48))
shifted_48 c some few = shifted (replicate 8 48) c refl (Each1-replicate (Fits w8) 8 48 byte) some few
  where
    byte : Fits w8 48
    byte = record { fits = omega arith }

-- ---- the values of digits

-- a digit is 48 more than its value
each_more : (n c : ℕ) (bytes : List ℕ) → length bytes ≡ n → list_all is_ascii_digit (take c bytes) ≡ true → number (map (λ b. b - 48) (take c bytes)) + number (take c (replicate n 48)) ≡ number (take c bytes)
each_more n zero bytes long all = let none : 0 + 0 ≡ 0 = omega arith in none
each_more zero (suc c) [] long all = let none : 0 + 0 ≡ 0 = omega arith in none
each_more zero (suc c) (b ∷ bytes) long all = absurd (omega (arith, long))
each_more (suc n) (suc c) [] long all = absurd (omega (arith, long))
each_more (suc n) (suc c) (b ∷ bytes) long all = by (each_more n c bytes (omega (arith, long))) (is_ascii_digit b) refl
  where
    by : (list_all is_ascii_digit (take c bytes) ≡ true → number (map (λ b. b - 48) (take c bytes)) + number (take c (replicate n 48)) ≡ number (take c bytes))
        → (t : Bool) → is_ascii_digit b ≡ t → b - 48 + 256 * number (map (λ b. b - 48) (take c bytes)) + (48 + 256 * number (take c (replicate n 48))) ≡ b + 256 * number (take c bytes)
    by later true d =
        let more = later (rw d at all) in
        let least = digit_least b d in omega (arith, more, least)
    by later false d = absurd (let never : false ≡ true = rw d at all in cc)

under_zeros : (n : ℕ) (xs ys zs : List ℕ) → number xs + number ys ≡ number zs → number (replicate n 0 ++ xs) + number (replicate n 0 ++ ys) ≡ number (replicate n 0 ++ zs)
under_zeros zero xs ys zs is = is
under_zeros (suc n) xs ys zs is =
    let more = under_zeros n xs ys zs is in
    let same : 0 + 256 * number (replicate n 0 ++ xs) + (0 + 256 * number (replicate n 0 ++ ys)) ≡ 0 + 256 * number (replicate n 0 ++ zs) = omega (arith, more) in same

-- the shifted bytes are the values of the digits and as many times 48
pub values_more : (bytes : List ℕ) (c word : ℕ) → word ≡ from_le_bytes w64 bytes → length bytes ≡ 8 → Each1 (Fits w8) bytes → 0 < c → c < 8 → list_all is_ascii_digit (take c bytes) ≡ true
    → number_l 256 (eight_of c bytes) + 3472328296227680304 * 2 ^ (64 - 8 * c) % 18446744073709551616 ≡ word * 2 ^ (64 - 8 * c) % 18446744073709551616
values_more bytes c word is long fits some few all =
    ap (λ (n : ℕ). number (eight_of c bytes) + n) (shifted_48 c some few)
    ∙ under_zeros (8 - c) (map (λ b. b - 48) (take c bytes)) (take c (replicate 8 48)) (take c bytes) (each_more 8 c bytes long all) ∙ sym (shifted bytes c long fits some few) ∙ ap (λ (n : ℕ). n * 2 ^ (64 - 8 * c) % 18446744073709551616) (sym is)

pub part_fits : (part other whole : ℕ) → part + other ≡ whole → other ≤ whole
part_fits part other whole is = omega (arith, is)

pub part_left : (part other whole : ℕ) → part + other ≡ whole → whole - other ≡ part
part_left part other whole is = omega (arith, is)

-- each value is one of a digit
values_after : (n : ℕ) (xs : List ℕ) → Each1 (λ digit. digit ≤ 9) xs → Each1 (λ digit. digit ≤ 9) (replicate n 0 ++ xs)
values_after zero xs each = each
values_after (suc n) xs each = (let z : 0 ≤ 9 = omega arith in z, values_after n xs each)

digit_values : (c : ℕ) (bytes : List ℕ) → list_all is_ascii_digit (take c bytes) ≡ true → Each1 (λ digit. digit ≤ 9) (map (λ b. b - 48) (take c bytes))
digit_values zero bytes all = tt
digit_values (suc c) [] all = tt
digit_values (suc c) (b ∷ bytes) all = by (digit_values c bytes) (is_ascii_digit b) refl
  where
    by : (list_all is_ascii_digit (take c bytes) ≡ true → Each1 (λ digit. digit ≤ 9) (map (λ b. b - 48) (take c bytes)))
        → (t : Bool) → is_ascii_digit b ≡ t → (b - 48 ≤ 9) × Each1 (λ digit. digit ≤ 9) (map (λ b. b - 48) (take c bytes))
    by later true d = let most = digit_most b d in (omega (arith, most), later (rw d at all))
    by later false d = absurd (let never : false ≡ true = rw d at all in cc)

pub are_values : (c : ℕ) (bytes : List ℕ) → list_all is_ascii_digit (take c bytes) ≡ true → Each1 (λ digit. digit ≤ 9) (eight_of c bytes)
are_values c bytes all = values_after (8 - c) (map (λ b. b - 48) (take c bytes)) (digit_values c bytes all)

-- they are as many
size_after : (n : ℕ) (xs : List ℕ) → length (replicate n 0 ++ xs) ≡ n + length xs
size_after zero xs = let same : length xs ≡ 0 + length xs = omega arith in same
size_after (suc n) xs = let more = size_after n xs in let same : suc (length (replicate n 0 ++ xs)) ≡ suc n + length xs = omega (arith, more) in same

values_size : (c : ℕ) (bytes : List ℕ) → c ≤ length bytes → length (map (λ b. b - 48) (take c bytes)) ≡ c
values_size zero bytes long = refl
values_size (suc c) [] long = absurd (omega (arith, long))
values_size (suc c) (b ∷ bytes) long = ap (λ (n : ℕ). suc n) (values_size c bytes (omega (arith, long)))

pub are_eight : (c : ℕ) (bytes : List ℕ) → c < 8 → length bytes ≡ 8 → length (eight_of c bytes) ≡ 8
are_eight c bytes few long =
    let zeros_and = size_after (8 - c) (map (λ b. b - 48) (take c bytes)) in
    let values = values_size c bytes (omega (arith, few, long)) in omega (arith, zeros_and, values, few)

-- and write the same number
told_after : (n : ℕ) (xs : List ℕ) → told_by (replicate n 0 ++ xs) ≡ told_by xs
told_after zero xs = refl
told_after (suc n) xs = told_after n xs

told_values : (n : ℕ) (bytes : List ℕ) → fold (λ (k digit : ℕ). k * 10 + digit) n (map (λ b. b - 48) bytes) ≡ value_with n bytes
told_values n [] = refl
told_values n (b ∷ bytes) = told_values (n * 10 + (b - 48)) bytes

pub told_value : (c : ℕ) (bytes : List ℕ) → told_by (eight_of c bytes) ≡ value_of (take c bytes)
unfolding value_of
told_value c bytes = told_after (8 - c) (map (λ b. b - 48) (take c bytes)) ∙ told_values 0 (take c bytes)

-- ---- the number that eight digits write

value_at : (digits : List ℕ) (i : ℕ) → i < length digits → Each1 (λ digit. digit ≤ 9) digits → get_or digits i 0 ≤ 9
value_at [] i less each = absurd (omega (arith, less))
value_at (digit ∷ digits) zero less each = each.0
value_at (digit ∷ digits) (suc i) less each = value_at digits i (omega (arith, less)) each.1

-- each two digits are a number below 100
pair : (z0 z1 s0 s1 s2 : ℕ) → s0 ≡ z0 + 256 * s1 → s1 ≡ z1 + 256 * s2 → s0 * 10 + s1 ≡ z0 * 10 + z1 + 256 * (s1 * 10 + s2)
pair z0 z1 s0 s1 s2 e f = omega (arith, e, f)

two : (p q a b c : ℕ) → a ≡ p + 256 * b → b ≡ q + 256 * c → p ≤ 99 → q ≤ 99 → (a % 256 ≡ p) × (a / 65536 ≡ c)
two p q a b c e f small least = (omega (arith, e, small), omega (arith, e, f, small, least))

eight_told : (z0 z1 z2 z3 z4 z5 z6 z7 n : ℕ) → z0 ≤ 9 → z1 ≤ 9 → z2 ≤ 9 → z3 ≤ 9 → z4 ≤ 9 → z5 ≤ 9 → z6 ≤ 9 → z7 ≤ 9
    → n ≡ z0 + 256 * (z1 + 256 * (z2 + 256 * (z3 + 256 * (z4 + 256 * (z5 + 256 * (z6 + 256 * (z7 + 256 * 0)))))))
    → (((n * 10 + n / 256) % 256 * 100 + (n * 10 + n / 256) / 65536 % 256) * 100 + (n * 10 + n / 256) / 65536 / 65536 % 256) * 100 + (n * 10 + n / 256) / 65536 / 65536 / 65536 % 256
    ≡ (((((((0 * 10 + z0) * 10 + z1) * 10 + z2) * 10 + z3) * 10 + z4) * 10 + z5) * 10 + z6) * 10 + z7
eight_told z0 z1 z2 z3 z4 z5 z6 z7 n l0 l1 l2 l3 l4 l5 l6 l7 is =
    let s7 = z7 + 256 * 0 in
    let s6 = z6 + 256 * s7 in
    let s5 = z5 + 256 * s6 in
    let s4 = z4 + 256 * s5 in
    let s3 = z3 + 256 * s4 in
    let s2 = z2 + 256 * s3 in
    let s1 = z1 + 256 * s2 in
    let rest : n / 256 ≡ s1 = quotient z0 s1 n l0 is in
    let a0 = pair z0 z1 n s1 s2 is refl in
    let a1 = pair z1 z2 s1 s2 s3 refl refl in
    let a2 = pair z2 z3 s2 s3 s4 refl refl in
    let a3 = pair z3 z4 s3 s4 s5 refl refl in
    let a4 = pair z4 z5 s4 s5 s6 refl refl in
    let a5 = pair z5 z6 s5 s6 s7 refl refl in
    let a6 = pair z6 z7 s6 s7 0 refl refl in
    let t0 = two (z0 * 10 + z1) (z1 * 10 + z2) (n * 10 + s1) (s1 * 10 + s2) (s2 * 10 + s3) a0 a1 (two_small z0 z1 l0 l1) (two_small z1 z2 l1 l2) in
    let t2 = two (z2 * 10 + z3) (z3 * 10 + z4) (s2 * 10 + s3) (s3 * 10 + s4) (s4 * 10 + s5) a2 a3 (two_small z2 z3 l2 l3) (two_small z3 z4 l3 l4) in
    let t4 = two (z4 * 10 + z5) (z5 * 10 + z6) (s4 * 10 + s5) (s5 * 10 + s6) (s6 * 10 + s7) a4 a5 (two_small z4 z5 l4 l5) (two_small z5 z6 l5 l6) in
    let t6 = last (z6 * 10 + z7) (s6 * 10 + s7) (s7 * 10 + 0) a6 (two_small z6 z7 l6 l7) in
    ap (λ (s : ℕ). (((n * 10 + s) % 256 * 100 + (n * 10 + s) / 65536 % 256) * 100 + (n * 10 + s) / 65536 / 65536 % 256) * 100 + (n * 10 + s) / 65536 / 65536 / 65536 % 256) rest
    ∙ ap (λ (p : ℕ). ((p * 100 + (n * 10 + s1) / 65536 % 256) * 100 + (n * 10 + s1) / 65536 / 65536 % 256) * 100 + (n * 10 + s1) / 65536 / 65536 / 65536 % 256) t0.0
    ∙ ap (λ (q : ℕ). (((z0 * 10 + z1) * 100 + q % 256) * 100 + q / 65536 % 256) * 100 + q / 65536 / 65536 % 256) t0.1
    ∙ ap (λ (p : ℕ). (((z0 * 10 + z1) * 100 + p) * 100 + (s2 * 10 + s3) / 65536 % 256) * 100 + (s2 * 10 + s3) / 65536 / 65536 % 256) t2.0
    ∙ ap (λ (q : ℕ). (((z0 * 10 + z1) * 100 + (z2 * 10 + z3)) * 100 + q % 256) * 100 + q / 65536 % 256) t2.1
    ∙ ap (λ (p : ℕ). (((z0 * 10 + z1) * 100 + (z2 * 10 + z3)) * 100 + p) * 100 + (s4 * 10 + s5) / 65536 % 256) t4.0
    ∙ ap (λ (q : ℕ). (((z0 * 10 + z1) * 100 + (z2 * 10 + z3)) * 100 + (z4 * 10 + z5)) * 100 + q % 256) t4.1
    ∙ ap (λ (p : ℕ). (((z0 * 10 + z1) * 100 + (z2 * 10 + z3)) * 100 + (z4 * 10 + z5)) * 100 + p) t6
    ∙ whole z0 z1 z2 z3 z4 z5 z6 z7
  where
    quotient : (z s n : ℕ) → z ≤ 9 → n ≡ z + 256 * s → n / 256 ≡ s
    quotient z s n small is = omega (arith, small, is)

    two_small : (a b : ℕ) → a ≤ 9 → b ≤ 9 → a * 10 + b ≤ 99
    two_small a b l m = omega (arith, l, m)

    last : (p a b : ℕ) → a ≡ p + 256 * b → p ≤ 99 → a % 256 ≡ p
    last p a b e small = omega (arith, e, small)

    whole : (z0 z1 z2 z3 z4 z5 z6 z7 : ℕ) → (((z0 * 10 + z1) * 100 + (z2 * 10 + z3)) * 100 + (z4 * 10 + z5)) * 100 + (z6 * 10 + z7)
        ≡ (((((((0 * 10 + z0) * 10 + z1) * 10 + z2) * 10 + z3) * 10 + z4) * 10 + z5) * 10 + z6) * 10 + z7
    whole z0 z1 z2 z3 z4 z5 z6 z7 = omega arith

pub number_told : (n : ℕ) (digits : List ℕ) → length digits ≡ 8 → Each1 (λ digit. digit ≤ 9) digits → n ≡ number_l 256 digits
    → (((n * 10 + n / 256) % 256 * 100 + (n * 10 + n / 256) / 65536 % 256) * 100 + (n * 10 + n / 256) / 65536 / 65536 % 256) * 100 + (n * 10 + n / 256) / 65536 / 65536 / 65536 % 256 ≡ told_by digits
number_told n digits long each is =
    let g = λ (i : ℕ). get_or digits i 0 in
    let list : digits ≡ from 0 8 digits = listed 8 0 digits (omega (arith, long)) in
    let l = λ (i : ℕ) (less : i < 8). value_at digits i (omega (arith, less, long)) each in
    eight_told (g 0) (g 1) (g 2) (g 3) (g 4) (g 5) (g 6) (g 7) n (l 0 (omega arith)) (l 1 (omega arith)) (l 2 (omega arith)) (l 3 (omega arith)) (l 4 (omega arith)) (l 5 (omega arith)) (l 6 (omega arith)) (l 7 (omega arith))
    (is ∙ ap (λ (items : List ℕ). number items) list)
    ∙ ap (λ (items : List ℕ). told_by items) (sym list)

-- it is small
pub eight_small : (digits : List ℕ) → length digits ≡ 8 → Each1 (λ digit. digit ≤ 9) digits → number_l 256 digits < 1152921504606846976
eight_small digits long each =
    let g = λ (i : ℕ). get_or digits i 0 in
    let list : digits ≡ from 0 8 digits = listed 8 0 digits (omega (arith, long)) in
    let l = λ (i : ℕ) (less : i < 8). value_at digits i (omega (arith, less, long)) each in
    let l0 = l 0 (omega arith) in
    let l1 = l 1 (omega arith) in
    let l2 = l 2 (omega arith) in
    let l3 = l 3 (omega arith) in
    let l4 = l 4 (omega arith) in
    let l5 = l 5 (omega arith) in
    let l6 = l 6 (omega arith) in
    let l7 = l 7 (omega arith) in
    let small : g 0 + 256 * (g 1 + 256 * (g 2 + 256 * (g 3 + 256 * (g 4 + 256 * (g 5 + 256 * (g 6 + 256 * (g 7 + 256 * 0))))))) < 1152921504606846976 = omega (arith, l0, l1, l2, l3, l4, l5, l6, l7) in
    subst (λ (items : List ℕ). number items < 1152921504606846976) (sym list) small
