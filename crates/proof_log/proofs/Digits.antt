-- Reading digits from the left.
use Rattle.std.proofs.Common.{◌≡◌, ◌∙◌, ◌≤◌, ◌<◌, ◌+◌, ◌*◌, ◌-◌, ℕ, suc, zero, List, [], ◌∷◌, ◌++◌, length, take, refl, sym, ap, subst, arith, append_assoc, length-append}
use Rattle.std.specs.Prelude.{decimal, get_or}
use Rattle.std.specs.Char.{digit_value}
use Rattle.std.specs.Str.Parse.{AllDigits, digits_value}
use Rattle.std.proofs.lemmas.Fmt.{decimal_digit, decimal-digits_value, decimal_is_IsNumeral, first_decimal}
use Rattle.std.proofs.lemmas.Int.Digits.{digits_value_push}
use Rattle.std.proofs.lemmas.Str.Parse.{digits_value-take-le, numerals_by_value, tells_digits}
use Rattle.proof_log.specs.own.Reading.{BeginsDigit, HasNoNumber, IsDigit, Stops}
use Rattle.proof_log.proofs.Cuts.{digits_cut, digits_of, number_begins}

-- the digits of this number were read, and this is left
pub record HasRead (bytes : List ℕ) (number : ℕ) (rest : List ℕ) : Type 0 where
  pub digits : List ℕ
  pub text : bytes ≡ digits ++ rest
  pub all : AllDigits 10 digits
  pub value : number ≡ digits_value 10 digits
  pub small : number ≤ 4294967295

digits_push : (ds : List ℕ) (d : ℕ) → AllDigits 10 ds → IsDigit d → AllDigits 10 (ds ++ d ∷ [])
digits_push [] d all is = (is, tt)
digits_push (x ∷ ds) d all is = (all.0, digits_push ds d all.1 is)

pub one_more_read : (bytes : List ℕ) (number : ℕ) (rest : List ℕ) (d : ℕ) (others : List ℕ) (next : ℕ) → HasRead bytes number rest → rest ≡ d ∷ others → IsDigit d
    → next ≡ number * 10 + digit_value d → next ≤ 4294967295 → HasRead bytes next others
one_more_read bytes number rest d others next r e is n small = record {
  digits = r.digits ++ d ∷ [];
  text = r.text ∙ (ap (λ (l : List ℕ). r.digits ++ l) e ∙ sym (append_assoc r.digits (d ∷ []) others));
  all = digits_push r.digits d r.all is;
  value = n ∙ (ap (λ (k : ℕ). k * 10 + digit_value d) r.value ∙ sym (digits_value_push 10 r.digits d));
  small = small;
}

-- digits up to one more are the front of all digits that stand there
front_of : (xs : List ℕ) (d : ℕ) (others ys vs : List ℕ) → AllDigits 10 xs → IsDigit d → Stops vs → xs ++ d ∷ others ≡ ys ++ vs → take (suc (length xs)) ys ≡ xs ++ d ∷ []
front_of [] d others [] vs all is stops e = absurd (stops (subst BeginsDigit e is))
front_of [] d others (y ∷ ys) vs all is stops e = let head : d ≡ y = cc in ap (λ (k : ℕ). k ∷ []) (sym head)
front_of (x ∷ xs) d others [] vs all is stops e = absurd (stops (subst BeginsDigit e all.0))
front_of (x ∷ xs) d others (y ∷ ys) vs all is stops e =
    let head : x ≡ y = cc in
    let tails : xs ++ d ∷ others ≡ ys ++ vs = cc in
    let rest = front_of xs d others ys vs all.1 is stops tails in
    cc (head, rest)

pub too_large : (bytes : List ℕ) (number : ℕ) (rest : List ℕ) (d : ℕ) (others : List ℕ) → HasRead bytes number rest → rest ≡ d ∷ others → IsDigit d
    → 4294967295 < number * 10 + digit_value d → HasNoNumber bytes
too_large bytes number rest d others r e is large n us small stops text =
    let there : r.digits ++ d ∷ others ≡ decimal n ++ us = ap (λ (l : List ℕ). r.digits ++ l) (sym e) ∙ (sym r.text ∙ text) in
    let front = front_of r.digits d others (decimal n) us r.all is stops there in
    let below = digits_value-take-le 10 (decimal n) (suc (length r.digits)) (omega arith) in
    let pushed = digits_value_push 10 r.digits d in
    let own = (decimal_is_IsNumeral n (omega (arith, small))).1 in
    let fronts : digits_value 10 (take (suc (length r.digits)) (decimal n)) ≡ digits_value 10 r.digits * 10 + digit_value d = ap (digits_value 10) front ∙ pushed in
    let value = r.value in
    omega (arith, large, below, fronts, own, value, small)

pub none_read : (bytes : List ℕ) (number : ℕ) (rest : List ℕ) → HasRead bytes number rest → Stops rest → length bytes - length rest ≡ 0 → HasNoNumber bytes
none_read bytes number rest r ends same n us small stops text = by r.digits r.text
  where
    by : (ds : List ℕ) → bytes ≡ ds ++ rest → ⊥
    by [] e = ends (subst BeginsDigit (sym text ∙ e) (number_begins n us small))
    by (d ∷ ds) e =
        let longer : length bytes ≡ suc (length ds + length rest) = ap length e ∙ ap suc (length-append ds rest) in
        omega (arith, longer, same)

leading : (n : ℕ) (ds : List ℕ) → n ≤ 4294967295 → ds ≡ decimal n → 1 < length ds → get_or ds 0 0 ≡ 48 → ⊥
leading zero ds small is long first = let one : length ds ≡ 1 = ap length (is ∙ decimal_digit 0 (omega arith)) in omega (arith, long, one)
leading (suc n) ds small is long first =
    let above = first_decimal (suc n) (omega arith) (omega (arith, small)) in
    let same : get_or ds 0 0 ≡ get_or (decimal (suc n)) 0 0 = ap (λ (l : List ℕ). get_or l 0 0) is in
    omega (arith, above, same, first)

-- how long the digits are, and how they begin
count : (bytes : List ℕ) (number : ℕ) (rest : List ℕ) (r : HasRead bytes number rest) → length bytes ≡ length r.digits + length rest
count bytes number rest r = ap length r.text ∙ length-append r.digits rest

first : (bytes : List ℕ) (number : ℕ) (rest : List ℕ) (r : HasRead bytes number rest) → 0 < length r.digits → get_or bytes 0 0 ≡ get_or r.digits 0 0
first bytes number rest r some = ap (λ (l : List ℕ). get_or l 0 0) r.text ∙ by r.digits some
  where
    by : (ds : List ℕ) → 0 < length ds → get_or (ds ++ rest) 0 0 ≡ get_or ds 0 0
    by [] some = absurd (omega arith)
    by (d ∷ ds) some = refl

pub zero_leads : (bytes : List ℕ) (number : ℕ) (rest : List ℕ) → HasRead bytes number rest → Stops rest → length rest + 1 < length bytes → get_or bytes 0 0 ≡ 48 → HasNoNumber bytes
zero_leads bytes number rest r ends long leads n us small stops text =
    let counted = count bytes number rest r in
    let cut = digits_cut r.digits (decimal n) rest us r.all (digits_of n small) ends stops (sym r.text ∙ text) in
    let begins = first bytes number rest r (omega (arith, counted, long)) in
    leading n r.digits small cut.0 (omega (arith, counted, long)) (sym begins ∙ leads)

pub is_read : (bytes : List ℕ) (number : ℕ) (rest : List ℕ) → HasRead bytes number rest → (length bytes - length rest ≡ 0 → ⊥)
    → (length rest + 1 < length bytes → get_or bytes 0 0 ≡ 48 → ⊥) → bytes ≡ decimal number ++ rest
is_read bytes number rest r some no_zero =
    let small = r.small in
    let value = r.value in
    let written = decimal-digits_value (numerals_by_value (AllDigits 10) tells_digits) r.digits r.all (filled (length r.digits) refl) (λ lead. by (length r.digits) refl lead) (omega (arith, value, small)) in
    r.text ∙ ap (λ (l : List ℕ). l ++ rest) (sym written ∙ ap decimal (sym r.value))
  where
    filled : (k : ℕ) → k ≡ length r.digits → 0 < k
    filled zero e = absurd (some (let counted = count bytes number rest r in omega (arith, e, counted)))
    filled (suc k) e = omega arith

    by : (k : ℕ) → k ≡ length r.digits → get_or r.digits 0 0 ≡ 48 → length r.digits ≡ 1
    by zero e lead = absurd (some (let counted = count bytes number rest r in omega (arith, e, counted)))
    by (suc zero) e lead = sym e
    by (suc (suc k)) e lead =
        let counted = count bytes number rest r in
        let begins = first bytes number rest r (omega (arith, e)) in
        absurd (no_zero (omega (arith, counted, e)) (begins ∙ lead))
