-- A literal that is written is read back.
use Rattle.std.proofs.Common.{arith, ◌≡◌, ◌==◌, ◌+◌, ◌/◌, ◌%◌, ◌^◌, ◌<◌, ℕ, List, [], ◌∷◌, Bool, true, false, not, Some, rules, length, get_or, refl, ap}
use Rattle.std.specs.Prelude.{decimal, nat_lt, codes}
use Rattle.std.specs.List.{list_all}
use Rattle.std.specs.Char.{is_ascii_digit}
use Rattle.std.proofs.lemmas.Bool.Decides.{nat_tests}
use Rattle.std.proofs.lemmas.Str.Parse.{IsNumeralModel, numerals_by_fold}
use Rattle.std.proofs.lemmas.Fmt.{digits_decimal, digits_value-decimal, first_decimal, decimal_nonempty}
use Rattle.sat_text.specs.Words.{value_of, value_with, is_natural, natural_of, number_of}
use Rattle.sat_text.specs.LratLine.{code_of}
use Rattle.sat_text.specs.Dimacs.{literal_text}

-- digits and their number, in the words of this crate's reader
pub own : IsNumeralModel (λ ds. list_all is_ascii_digit ds ≡ true) value_of
unfolding value_of
own = numerals_by_fold (λ ds. list_all is_ascii_digit ds ≡ true) (search rules) value_with (record { empty = λ n. refl; more = λ n c cs h. refl })

-- digits whose first one is no zero are a number
digits_natural : (ds : List ℕ) (n : ℕ) → list_all is_ascii_digit ds ≡ true → 0 < length ds → 48 < get_or ds 0 0 → value_of ds ≡ n → n < 18446744073709551616 → natural_of ds ≡ Some n
unfolding is_natural
digits_natural [] n all some first is small = absurd (omega (arith, some))
digits_natural (b ∷ ds) n all some first is small =
    let zero : (b == 48) ≡ false = grind (arith, nat_tests) in
    let fits : nat_lt (value_of (b ∷ ds)) 18446744073709551616 ≡ true = grind (arith, nat_tests) in
    rw (all, zero, fits) (ap (λ (v : ℕ). Some v) is)

pub decimal_natural : (n : ℕ) → 0 < n → n < 2 ^ 64 → natural_of (decimal n) ≡ Some n
decimal_natural n some small = digits_natural (decimal n) n (digits_decimal own n small) (decimal_nonempty n small) (first_decimal n some small) (digits_value-decimal own n small) small

-- a number without a minus
plain_number : (ds : List ℕ) (n : ℕ) → 0 < length ds → 48 < get_or ds 0 0 → natural_of ds ≡ Some n → number_of ds ≡ Some (record { minus = false; number = n })
unfolding number_of
plain_number [] n some first is = absurd (omega (arith, some))
plain_number (b ∷ ds) n some first is = let minus : (b == 45) ≡ false = grind (arith, nat_tests) in rw (minus, is) refl

-- and after a minus
minus_number : (ds : List ℕ) (n : ℕ) → 0 < n → natural_of ds ≡ Some n → number_of (45 ∷ ds) ≡ Some (record { minus = true; number = n })
unfolding number_of
minus_number ds n some is = let zero : (n == 0) ≡ false = grind (arith, nat_tests) in rw is (rw zero refl)

pub literal_number : (l : ℕ) → l < 2147483648 → number_of (literal_text l) ≡ Some (record { minus = not (l % 2 == 0); number = l / 2 + 1 })
literal_number l small = by (l % 2 == 0) refl
  where
    fits : l / 2 + 1 < 2 ^ 64
    fits = omega (arith, small)

    by : (t : Bool) → (l % 2 == 0) ≡ t → number_of (literal_text l) ≡ Some (record { minus = not (l % 2 == 0); number = l / 2 + 1 })
    by true e = rw e (plain_number (decimal (l / 2 + 1)) (l / 2 + 1) (decimal_nonempty (l / 2 + 1) fits) (first_decimal (l / 2 + 1) (omega arith) fits) (decimal_natural (l / 2 + 1) (omega arith) fits))
    by false e = rw e (minus_number (decimal (l / 2 + 1)) (l / 2 + 1) (omega arith) (decimal_natural (l / 2 + 1) (omega arith) fits))

-- and its code
pub literal_code : (l : ℕ) → code_of (record { minus = not (l % 2 == 0); number = l / 2 + 1 }) ≡ l
literal_code l = by (l % 2 == 0) refl
  where
    by : (t : Bool) → (l % 2 == 0) ≡ t → code_of (record { minus = not (l % 2 == 0); number = l / 2 + 1 }) ≡ l
    by true e = rw e (let even : l % 2 ≡ 0 = grind (arith, nat_tests) in omega (arith, even))
    by false e = rw e (let odd : l % 2 ≡ 1 = grind (arith, nat_tests) in omega (arith, odd))

-- the end of a clause
pub zero_number : number_of (codes "0") ≡ Some (record { minus = false; number = 0 })
unfolding number_of is_natural value_of
zero_number = refl
