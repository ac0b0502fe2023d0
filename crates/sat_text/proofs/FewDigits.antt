-- Numbers of few digits, whose digits are found at once.
use Rattle.std.proofs.Common.{◌≡◌, ◌∙◌, ◌<◌, ◌≤◌, ◌+◌, ◌-◌, ◌%◌, ◌^◌, not, ℕ, zero, suc, Bool, true, false, cond, leb, List, [], ◌∷◌, length, map, take, drop, get_or, replicate, Some, None, option_map, refl, sym, ap, ap₂, arith, w8, Fits}
use Rattle.std.specs.Char.{is_ascii_digit}
use Rattle.std.specs.List.{prefix_len, list_all}
use Rattle.std.specs.Simd.Lanes.{mask_l, top, zip2, Each1}
use Rattle.std.proofs.Math.Seq.{drop-cons}
use Rattle.std.proofs.lemmas.Simd.{tops_compared, zip2_splat, zip2_splat_left, mask_l-mod, map-map, leading_from_mask_l, trailing_mask_l}
use Rattle.std.proofs.lemmas.List.{length-map}
use Rattle.std.proofs.lemmas.List.Folds.{length-prefix_len}
use Rattle.std.proofs.lemmas.Bool.{le-leb, lt-leb, leb-true, leb-false}
use Rattle.std.proofs.lemmas.Bool.Decides.{nat_tests}
use lib.Count.{count_trailing_zeros}
use Rattle.sat_text.specs.Words.{words_of, value_of, is_natural, natural_of, first_number}
use Rattle.sat_text.specs.own.Cut.{is_other, after_blanks, digits_front, after_digits, ends_word}
use Rattle.sat_text.specs.declared.words.Signed.{Signed}
use Rattle.sat_text.proofs.WordsLaws.{digit_no_blank, natural_some, front_all_digits, first_digit, natural_front, front_is_digits, plain_number, plain_after, words_after_blanks}

pub digit_least : (b : ℕ) → is_ascii_digit b ≡ true → 48 ≤ b
digit_least b d = grind (arith, nat_tests)

pub digit_most : (b : ℕ) → is_ascii_digit b ≡ true → b ≤ 57
digit_most b d = grind (arith, nat_tests)

other_range : (b : ℕ) → is_ascii_digit b ≡ false → 48 ≤ b → 57 < b
other_range b d least = grind (arith, nat_tests)

-- the bytes that are no digits
moved_is_large : (b : ℕ) → b < 256 → leb 10 ((b + 208) % 256) ≡ is_other b
moved_is_large b small = by (is_ascii_digit b) refl
  where
    by : (t : Bool) → is_ascii_digit b ≡ t → leb 10 ((b + 208) % 256) ≡ not (is_ascii_digit b)
    by true d = let least = digit_least b d in let most = digit_most b d in rw d (lt-leb 10 ((b + 208) % 256) (omega (arith, least, most)))
    by false d = rw d (le-leb 10 ((b + 208) % 256) (at (leb 48 b) refl))
      where
        at : (t : Bool) → leb 48 b ≡ t → 10 ≤ (b + 208) % 256
        at true t = let most = other_range b d (leb-true 48 b t) in omega (arith, most, small)
        at false t = let less = leb-false 48 b t in omega (arith, less)

each_moved : (bytes : List ℕ) → Each1 (Fits w8) bytes → map (λ (b : ℕ). leb 10 ((b + 208) % 256)) bytes ≡ map is_other bytes
each_moved [] fits = refl
each_moved (b ∷ bytes) fits = ap₂ (λ (t : Bool) (ts : List Bool). t ∷ ts) (moved_is_large b fits.0.fits) (each_moved bytes fits.1)

pub others : (bytes : List ℕ) → length bytes ≡ 8 → Each1 (Fits w8) bytes
    → mask_l (map (top 7) (zip2 (λ (a b : ℕ). cond (leb a b) 255 0) (replicate 8 10) (zip2 (λ (a b : ℕ). (a + (256 - b)) % 256) bytes (replicate 8 48)))) % 2 ^ 64 ≡ mask_l (map is_other bytes)
others bytes long fits =
    let ys = map (λ (b : ℕ). (b + 208) % 256) bytes in
    let moved : zip2 (λ (a b : ℕ). (a + (256 - b)) % 256) bytes (replicate 8 48) ≡ ys = zip2_splat (λ (a b : ℕ). (a + (256 - b)) % 256) bytes 8 48 long in
    ap (λ (zs : List ℕ). mask_l (map (top 7) (zip2 (λ (a b : ℕ). cond (leb a b) 255 0) (replicate 8 10) zs)) % 2 ^ 64) moved
    ∙ ap (λ (ms : List Bool). mask_l ms % 2 ^ 64) (
    tops_compared w8 leb (replicate 8 10) ys ∙ zip2_splat_left leb 10 8 ys (length-map bytes (λ (b : ℕ). (b + 208) % 256) ∙ long)
    ∙ map-map (λ (y : ℕ). leb 10 y) (λ (b : ℕ). (b + 208) % 256) bytes ∙ each_moved bytes fits
    )
    ∙ mask_l-mod (map is_other bytes) 64 (omega (arith, length-map bytes is_other, long))

-- how many digits there are before the first of them
twice : (t : Bool) → not (not t) ≡ t
twice true = refl
twice false = refl

no_others : (bytes : List ℕ) → prefix_len (λ b. not (is_other b)) bytes ≡ prefix_len is_ascii_digit bytes
no_others [] = refl
no_others (b ∷ bytes) = ap₂ (λ (t : Bool) (n : ℕ). cond t (1 + n) 0) (twice (is_ascii_digit b)) (no_others bytes)

pub none_other : (bytes : List ℕ) (mask : ℕ) → mask ≡ mask_l (map is_other bytes) → mask ≡ 0 → length bytes ≡ 8 → 8 ≡ prefix_len is_ascii_digit bytes
none_other bytes mask is none long = sym (sym (no_others bytes) ∙ leading_from_mask_l is_other bytes (sym is ∙ none) ∙ long)

pub first_other : (bytes : List ℕ) (mask : ℕ) → mask ≡ mask_l (map is_other bytes) → (mask ≡ 0 → ⊥) → length bytes ≡ 8 → count_trailing_zeros 64 mask ≡ prefix_len is_ascii_digit bytes
first_other bytes mask is some long =
    let positive : 0 < mask_l (map is_other bytes) = omega (arith, is, some) in
    ap (count_trailing_zeros 64) is ∙ trailing_mask_l is_other 64 bytes (omega (arith, long)) positive ∙ no_others bytes

-- ---- the digits at the front of a text, where they end within so many bytes

pub fronts : (text : List ℕ) (n : ℕ) → prefix_len is_ascii_digit (take n text) < n → n ≤ length text
    → (digits_front text ≡ take (prefix_len is_ascii_digit (take n text)) (take n text)) × (after_digits text ≡ drop (prefix_len is_ascii_digit (take n text)) text)
fronts text zero less long = absurd (omega (arith, less))
fronts [] (suc n) less long = absurd (omega (arith, long))
fronts (b ∷ text) (suc n) less long = by (fronts text n) (is_ascii_digit b) refl
  where
    by : (prefix_len is_ascii_digit (take n text) < n → n ≤ length text
        → (digits_front text ≡ take (prefix_len is_ascii_digit (take n text)) (take n text)) × (after_digits text ≡ drop (prefix_len is_ascii_digit (take n text)) text))
        → (t : Bool) → is_ascii_digit b ≡ t → (digits_front (b ∷ text) ≡ take (prefix_len is_ascii_digit (b ∷ take n text)) (b ∷ take n text)) × (after_digits (b ∷ text) ≡ drop (prefix_len is_ascii_digit (b ∷ take n text)) (b ∷ text))
    by later true d =
        let shorter : 1 + prefix_len is_ascii_digit (take n text) < suc n = rw d at less in
        let more = later (omega (arith, shorter)) (omega (arith, long)) in
        let one : suc (prefix_len is_ascii_digit (take n text)) ≡ 1 + prefix_len is_ascii_digit (take n text) = omega arith in
        (rw d (ap (λ (ds : List ℕ). b ∷ ds) more.0 ∙ ap (λ (k : ℕ). take k (b ∷ take n text)) one), rw d (more.1 ∙ ap (λ (k : ℕ). drop k (b ∷ text)) one))
    by later false d = (rw d refl, rw d refl)

pub all_digits : (bytes : List ℕ) → list_all is_ascii_digit (take (prefix_len is_ascii_digit bytes) bytes) ≡ true
all_digits [] = refl
all_digits (b ∷ bytes) = by (all_digits bytes) (is_ascii_digit b) refl
  where
    by : list_all is_ascii_digit (take (prefix_len is_ascii_digit bytes) bytes) ≡ true → (t : Bool) → is_ascii_digit b ≡ t → list_all is_ascii_digit (take (prefix_len is_ascii_digit (b ∷ bytes)) (b ∷ bytes)) ≡ true
    by more true d =
        let one : 1 + prefix_len is_ascii_digit bytes ≡ suc (prefix_len is_ascii_digit bytes) = omega arith in
        let whole : list_all is_ascii_digit (b ∷ take (prefix_len is_ascii_digit bytes) bytes) ≡ true = rw d more in
        rw d (ap (λ (k : ℕ). list_all is_ascii_digit (take k (b ∷ bytes))) one ∙ whole)
    by more false d = rw d refl

-- a number of so many digits is told, where none is a leading zero
pub told : (text : List ℕ) (count n : ℕ) → count ≡ prefix_len is_ascii_digit (take 8 text) → (count ≡ 0 → ⊥) → count < 8 → 8 ≤ length text → (get_or text 0 0 ≡ 48 → ⊥)
    → n ≡ value_of (take count (take 8 text)) → n < 18446744073709551616 → natural_of (digits_front text) ≡ Some n
told text count n is some few long first value small =
    let front : digits_front text ≡ take count (take 8 text) = (fronts text 8 (omega (arith, is, few)) long).0 ∙ ap (λ (k : ℕ). take k (take 8 text)) (sym is) in
    let size : length (digits_front text) ≡ count = ap (λ (ds : List ℕ). length ds) ((fronts text 8 (omega (arith, is, few)) long).0) ∙ length-prefix_len is_ascii_digit (take 8 text) ∙ sym is in
    let positive : 0 < length (digits_front text) = omega (arith, size, some) in
    natural_some (digits_front text) n (front_all_digits text) positive (λ zero_first. absurd (first (sym (first_digit text positive) ∙ zero_first))) (value ∙ ap value_of (sym front)) small

-- what follows it, where a space does
pub followed : (text : List ℕ) (count : ℕ) → count ≡ prefix_len is_ascii_digit (take 8 text) → count < 8 → 8 ≤ length text → get_or text count 0 ≡ 32 → after_digits text ≡ 32 ∷ drop (count + 1) text
followed text count is few long space =
    let one : suc count ≡ count + 1 = omega arith in
    (fronts text 8 (omega (arith, is, few)) long).1 ∙ ap (λ (k : ℕ). drop k text) (sym is) ∙ drop-cons text count 0 (omega (arith, few, long))
    ∙ ap₂ (λ (b k : ℕ). b ∷ drop k text) space one

-- no blank is at the front of a text at whose front a number is, nor a minus
pub at_front : (text : List ℕ) (n : ℕ) → natural_of (digits_front text) ≡ Some n → (text ≡ after_blanks text) × ((more : List ℕ) → text ≡ 45 ∷ more → ⊥)
unfolding is_natural
at_front [] n is = (refl, λ more e. let never : [] ≡ 45 ∷ more = e in cc)
at_front (b ∷ text) n is = by (is_ascii_digit b) refl
  where
    by : (t : Bool) → is_ascii_digit b ≡ t → ((b ∷ text) ≡ after_blanks (b ∷ text)) × ((more : List ℕ) → b ∷ text ≡ 45 ∷ more → ⊥)
    by true d = (rw (digit_no_blank b d) refl, λ more e. let head : b ≡ 45 = cc in let least = digit_least b d in omega (arith, head, least))
    by false d = absurd (none d)
      where
        none : is_ascii_digit b ≡ false → ⊥
        none f = let never : None ≡ Some n = rw f at is in cc

abbrev plain : ℕ → Signed
plain n = record { minus = false; number = n }

-- so the number is the first word, and what follows the space has the other words
pub short_first : (text rest : List ℕ) (n : ℕ) → natural_of (digits_front text) ≡ Some n → after_digits text ≡ 32 ∷ rest → first_number (words_of text) ≡ Some (record { minus = false; number = n })
short_first text rest n is follows =
    let ends : ends_word (after_digits text) ≡ true = ap ends_word follows in
    let front = at_front text n is in
    plain_number text text front.0 front.1 ∙ ap (option_map plain) (natural_front text n ends is)

pub short_passed : (text rest : List ℕ) (n : ℕ) → natural_of (digits_front text) ≡ Some n → after_digits text ≡ 32 ∷ rest → words_of rest ≡ drop 1 (words_of text)
short_passed text rest n is follows =
    let ends : ends_word (after_digits text) ≡ true = ap ends_word follows in
    let front = at_front text n is in
    let space : words_of rest ≡ words_of (32 ∷ rest) = sym (words_after_blanks rest) ∙ words_after_blanks (32 ∷ rest) in
    space ∙ ap words_of (sym follows) ∙ ap words_of (sym (front_is_digits text ends).1) ∙ plain_after text text n front.0 (natural_front text n ends is)
