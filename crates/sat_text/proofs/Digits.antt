-- Numbers of few digits, and of many.
use Rattle.std.proofs.Common.{◌≡◌, ◌∙◌, ◌<◌, ◌≤◌, ◌+◌, ◌*◌, ◌-◌, ℕ, zero, suc, Bool, true, false, List, [], ◌∷◌, length, get_or, refl, sym, ap, arith}
use Rattle.std.specs.Prelude.{Some, None}
use Rattle.std.specs.Char.{is_ascii_digit}
use Rattle.sat_text.specs.Words.{natural_of, value_of, value_with}
use Rattle.sat_text.specs.own.Cut.{digits_front, after_digits}
use Rattle.sat_text.proofs.WordsLaws.{first_digit, front_all_digits, grows, natural_large, natural_leading, natural_no_digit, natural_some}

-- a number of so many digits is below this one
abbrev pub most_of : ℕ → ℕ
most_of zero = 1
most_of (suc n) = 10 * most_of n

-- one of 18 digits fits with a digit more
few_by : (d n : ℕ) → n + d ≡ 18 → most_of n ≤ 1000000000000000000
few_by zero n e = let all : most_of 18 ≡ 1000000000000000000 = refl in let is : n ≡ 18 = omega (arith, e) in let same = ap most_of is in omega (arith, same, all)
few_by (suc d) n e = let more = few_by d (suc n) (omega (arith, e)) in let step : most_of (suc n) ≡ 10 * most_of n = refl in omega (arith, more, step)

pub few_fit : (n most number : ℕ) → n < most → most ≤ 19 → number < most_of n → number < 1000000000000000000
few_fit n most number less few below = let h = few_by (18 - n) n (omega (arith, less, few)) in omega (arith, h, below)

-- a number that is too large stays so
pub still_large : (n b : ℕ) (digits : List ℕ) (whole : ℕ) → 18446744073709551616 ≤ n * 10 + (b - 48) → value_with n (b ∷ digits) ≡ whole → 18446744073709551616 ≤ whole
still_large n b digits whole large is = let more = grows (n * 10 + (b - 48)) digits in omega (arith, more, large, is)

-- no digit at the front
pub no_digit : (bytes : List ℕ) (count left : ℕ) → count + left ≡ length (digits_front bytes) → (count < 19 → left ≡ 0) → count ≡ 0 → natural_of (digits_front bytes) ≡ None
no_digit bytes count left long ended none = let last = ended (omega (arith, none)) in natural_no_digit (digits_front bytes) (omega (arith, long, last, none))

-- what follows the digits where there is none
pub none_after : (bytes : List ℕ) → digits_front bytes ≡ [] → after_digits bytes ≡ bytes
none_after [] none = refl
none_after (b ∷ bytes) none = by (is_ascii_digit b) refl
  where
    by : (t : Bool) → is_ascii_digit b ≡ t → after_digits (b ∷ bytes) ≡ b ∷ bytes
    by true d = absurd (let never : b ∷ digits_front bytes ≡ [] = rw d at none in cc)
    by false d = rw d refl

-- a zero at the front, before others
pub leading : (bytes : List ℕ) (count left : ℕ) → count + left ≡ length (digits_front bytes) → 1 < count → get_or bytes 0 0 ≡ 48 → natural_of (digits_front bytes) ≡ None
leading bytes count left long many first = natural_leading (digits_front bytes) (let same = first_digit bytes (omega (arith, long, many)) in same ∙ first) (omega (arith, long, many))

-- the digits at the front are a number, after so many of them
pub natural_after : (bytes : List ℕ) (count left n : ℕ) → count + left ≡ length (digits_front bytes) → (count < 19 → left ≡ 0) → (count ≡ 0 → ⊥) → (get_or bytes 0 0 ≡ 48 → count ≤ 1)
    → n ≡ value_of (digits_front bytes) → n < 18446744073709551616 → natural_of (digits_front bytes) ≡ Some n
natural_after bytes count left n long ended some alone is fits =
    let positive : 0 < length (digits_front bytes) = omega (arith, long, some) in
    natural_some (digits_front bytes) n (front_all_digits bytes) positive
    (λ first. let few = alone (sym (first_digit bytes positive) ∙ first) in let none = ended (omega (arith, few)) in omega (arith, long, few, none, positive))
    is fits

-- and are none where that is too large
pub large_after : (bytes : List ℕ) (n : ℕ) → n ≡ value_of (digits_front bytes) → 18446744073709551616 ≤ n → natural_of (digits_front bytes) ≡ None
large_after bytes n is large = natural_large (digits_front bytes) (omega (arith, is, large))
