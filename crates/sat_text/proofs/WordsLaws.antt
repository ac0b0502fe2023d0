-- The words of a line, from its front.
use Rattle.std.proofs.Common.{◌≡◌, ◌==◌, ◌||◌, ◌<◌, ◌≤◌, ◌+◌, ◌*◌, ◌-◌, not, ℕ, List, [], ◌∷◌, length, get_or, filter, drop, Bool, true, false, Some, None, option_map, refl, sym, ap, ◌∙◌, subst, arith, inl, inr}
use Rattle.std.specs.Prelude.{nat_lt, option_and_then, codes}
use Rattle.std.specs.Char.{is_ascii_digit}
use Rattle.std.specs.List.{slice_split, onto_first, list_all}
use Rattle.std.proofs.lemmas.Bool.{eqb-true, eq-eqb, lt-ltb, le-ltb}
use Rattle.std.proofs.lemmas.Bool.Decides.{eqb_tells, nat_tests}
use Rattle.sat_text.specs.declared.words.Signed.{Signed}
use Rattle.sat_text.specs.Words.{is_blank, is_some, words_of, value_of, value_with, is_natural, natural_of, negative, number_of, first_number, begins_with}
use Rattle.sat_text.specs.own.Cut.{after_blanks, digits_front, after_digits, word_front, after_word, ends_word}

-- the parts after the first one
abbrev later : List ℕ → List (List ℕ)
later [] = []
later (b ∷ bytes) = slice_split is_blank bytes

split_parts : (bytes : List ℕ) → slice_split is_blank bytes ≡ word_front bytes ∷ later (after_word bytes)
split_parts [] = refl
split_parts (b ∷ bytes) = by (split_parts bytes) (is_blank b) refl
  where
    by : slice_split is_blank bytes ≡ word_front bytes ∷ later (after_word bytes) → (t : Bool) → is_blank b ≡ t → slice_split is_blank (b ∷ bytes) ≡ word_front (b ∷ bytes) ∷ later (after_word (b ∷ bytes))
    by more true e = rw e refl
    by more false e = rw e (ap (onto_first b) more)

later_words : (bytes : List ℕ) → filter is_some (later (after_word bytes)) ≡ words_of (after_word bytes)
unfolding words_of
later_words [] = refl
later_words (b ∷ bytes) = by (later_words bytes) (is_blank b) refl
  where
    by : filter is_some (later (after_word bytes)) ≡ filter is_some (slice_split is_blank (after_word bytes)) → (t : Bool) → is_blank b ≡ t → filter is_some (later (after_word (b ∷ bytes))) ≡ filter is_some (slice_split is_blank (after_word (b ∷ bytes)))
    by more true e = rw e (rw e refl)
    by more false e = rw e more

-- blanks at the front part nothing
pub words_after_blanks : (bytes : List ℕ) → words_of (after_blanks bytes) ≡ words_of bytes
unfolding words_of
words_after_blanks [] = refl
words_after_blanks (b ∷ bytes) = by (words_after_blanks bytes) (is_blank b) refl
  where
    by : filter is_some (slice_split is_blank (after_blanks bytes)) ≡ filter is_some (slice_split is_blank bytes) → (t : Bool) → is_blank b ≡ t
        → filter is_some (slice_split is_blank (after_blanks (b ∷ bytes))) ≡ filter is_some (slice_split is_blank (b ∷ bytes))
    by more true e = rw e more
    by more false e = rw e (sym (rw e refl))

-- the first word of a text that no blank begins, and the words after it
pub words_front : (b : ℕ) (bytes : List ℕ) → is_blank b ≡ false → words_of (b ∷ bytes) ≡ (b ∷ word_front bytes) ∷ words_of (after_word bytes)
unfolding words_of
words_front b bytes e = rw e (ap (λ (parts : List (List ℕ)). filter is_some (onto_first b parts)) (split_parts bytes) ∙ ap (λ (words : List (List ℕ)). (b ∷ word_front bytes) ∷ words) (later_words bytes))

-- no text has a blank at its front once the blanks there are passed
pub front_no_blank : (bytes : List ℕ) (b : ℕ) (more : List ℕ) → after_blanks bytes ≡ b ∷ more → is_blank b ≡ false
front_no_blank [] b more e = absurd (let never : [] ≡ b ∷ more = e in cc)
front_no_blank (c ∷ bytes) b more e = by (front_no_blank bytes b more) (is_blank c) refl
  where
    by : (after_blanks bytes ≡ b ∷ more → is_blank b ≡ false) → (t : Bool) → is_blank c ≡ t → is_blank b ≡ false
    by rest true f = rest (rw f at e)
    by rest false f = let same : c ∷ bytes ≡ b ∷ more = rw f at e in let head : c ≡ b = cc in subst (λ (x : ℕ). is_blank x ≡ false) head f

-- ---- digits

pub digit_no_blank : (b : ℕ) → is_ascii_digit b ≡ true → is_blank b ≡ false
digit_no_blank b e = grind (arith, nat_tests)

-- the digits at the front are the word where the word ends after them
pub front_is_digits : (bytes : List ℕ) → ends_word (after_digits bytes) ≡ true → (word_front bytes ≡ digits_front bytes) × (after_word bytes ≡ after_digits bytes)
front_is_digits [] e = (refl, refl)
front_is_digits (b ∷ bytes) e = by (front_is_digits bytes) (is_ascii_digit b) refl
  where
    by : (ends_word (after_digits bytes) ≡ true → (word_front bytes ≡ digits_front bytes) × (after_word bytes ≡ after_digits bytes)) → (t : Bool) → is_ascii_digit b ≡ t → (word_front (b ∷ bytes) ≡ digits_front (b ∷ bytes)) × (after_word (b ∷ bytes) ≡ after_digits (b ∷ bytes))
    by rest true d =
        let no = digit_no_blank b d in
        let more = rest (rw d at e) in
        (rw (no, d) (ap (λ (bs : List ℕ). b ∷ bs) more.0), rw (no, d) more.1)
    by rest false d = let blank : is_blank b ≡ true = rw d at e in (rw (blank, d) refl, rw (blank, d) refl)

-- and else the word is not all digits
pub front_not_digits : (bytes : List ℕ) → ends_word (after_digits bytes) ≡ false → list_all is_ascii_digit (word_front bytes) ≡ false
front_not_digits [] e = absurd (let never : true ≡ false = e in cc)
front_not_digits (b ∷ bytes) e = by (front_not_digits bytes) (is_ascii_digit b) refl
  where
    by : (ends_word (after_digits bytes) ≡ false → list_all is_ascii_digit (word_front bytes) ≡ false) → (t : Bool) → is_ascii_digit b ≡ t → list_all is_ascii_digit (word_front (b ∷ bytes)) ≡ false
    by rest true d = let no = digit_no_blank b d in rw no (rw d (rest (rw d at e)))
    by rest false d = let no : is_blank b ≡ false = rw d at e in rw no (rw d refl)

pub front_all_digits : (bytes : List ℕ) → list_all is_ascii_digit (digits_front bytes) ≡ true
front_all_digits [] = refl
front_all_digits (b ∷ bytes) = by (front_all_digits bytes) (is_ascii_digit b) refl
  where
    by : list_all is_ascii_digit (digits_front bytes) ≡ true → (t : Bool) → is_ascii_digit b ≡ t → list_all is_ascii_digit (digits_front (b ∷ bytes)) ≡ true
    by rest true d = rw d (rw d rest)
    by rest false d = rw d refl

-- a number grows with each digit
pub grows : (n : ℕ) (digits : List ℕ) → n ≤ value_with n digits
grows n [] = omega arith
grows n (b ∷ digits) = let more = grows (n * 10 + (b - 48)) digits in omega (arith, more)

-- a word that is not all digits is no number
pub not_natural : (word : List ℕ) → list_all is_ascii_digit word ≡ false → natural_of word ≡ None
unfolding is_natural
not_natural [] e = refl
not_natural (b ∷ word) e = rw e refl

-- ---- what is read at the front

-- the number at the front is the word's
pub natural_front : (text : List ℕ) (n : ℕ) → ends_word (after_digits text) ≡ true → natural_of (digits_front text) ≡ Some n → natural_of (word_front text) ≡ Some n
natural_front text n ends is = ap natural_of (front_is_digits text ends).0 ∙ is

pub natural_none : (text : List ℕ) → natural_of (digits_front text) ≡ None → natural_of (word_front text) ≡ None
natural_none text none = by (ends_word (after_digits text)) refl
  where
    by : (t : Bool) → ends_word (after_digits text) ≡ t → natural_of (word_front text) ≡ None
    by true ends = ap natural_of (front_is_digits text ends).0 ∙ none
    by false goes_on = not_natural (word_front text) (front_not_digits text goes_on)

-- the words of a text at whose front, after blanks, a byte stands
pub words_at : (bytes : List ℕ) (b : ℕ) (more : List ℕ) → after_blanks bytes ≡ b ∷ more → words_of bytes ≡ (b ∷ word_front more) ∷ words_of (after_word more)
words_at bytes b more e = sym (words_after_blanks bytes) ∙ ap words_of e ∙ words_front b more (front_no_blank bytes b more e)

pub words_none : (bytes : List ℕ) → after_blanks bytes ≡ [] → words_of bytes ≡ []
unfolding words_of
words_none bytes e = sym (words_after_blanks bytes) ∙ ap words_of e

-- a number without a sign
pub plain_number : (bytes word : List ℕ) → word ≡ after_blanks bytes → ((more : List ℕ) → word ≡ 45 ∷ more → ⊥) → first_number (words_of bytes) ≡ option_map (λ n. record { minus = false; number = n }) (natural_of (word_front word))
unfolding number_of is_natural
plain_number bytes [] w none = ap first_number (words_none bytes (sym w))
plain_number bytes (b ∷ more) w none = by (b == 45) refl
  where
    no_blank : is_blank b ≡ false
    no_blank = front_no_blank bytes b more (sym w)

    by : (t : Bool) → (b == 45) ≡ t → first_number (words_of bytes) ≡ option_map (λ n. record { minus = false; number = n }) (natural_of (word_front (b ∷ more)))
    by true t = absurd (none more (ap (λ (x : ℕ). x ∷ more) (eqb-true b 45 t)))
    by false t = ap first_number (words_at bytes b more (sym w)) ∙ rw (t, no_blank) refl

pub plain_after : (bytes word : List ℕ) (n : ℕ) → word ≡ after_blanks bytes → natural_of (word_front word) ≡ Some n → words_of (after_word word) ≡ drop 1 (words_of bytes)
unfolding is_natural
plain_after bytes [] n w is = absurd (let never : None ≡ Some n = is in cc)
plain_after bytes (b ∷ more) n w is = rw (front_no_blank bytes b more (sym w)) (sym (ap (drop 1) (words_at bytes b more (sym w))))

-- a number after a minus
pub minus_number : (bytes more : List ℕ) → after_blanks bytes ≡ 45 ∷ more → first_number (words_of bytes) ≡ option_and_then negative (natural_of (word_front more))
unfolding number_of
minus_number bytes more e = ap first_number (words_at bytes 45 more e)

pub minus_after : (bytes more : List ℕ) → after_blanks bytes ≡ 45 ∷ more → words_of (after_word more) ≡ drop 1 (words_of bytes)
minus_after bytes more e = sym (ap (drop 1) (words_at bytes 45 more e))

-- a word fewer
pub fewer_words : (words : List (List ℕ)) (told : Signed) → Some told ≡ first_number words → length (drop 1 words) < length words
fewer_words [] told e = absurd (let never : Some told ≡ None = e in cc)
fewer_words (word ∷ words) told e = omega arith

-- a word of one byte
ended_front : (more : List ℕ) → ends_word more ≡ true → (word_front more ≡ []) × (after_word more ≡ more)
ended_front [] e = (refl, refl)
ended_front (b ∷ more) e = (rw e refl, rw e refl)

pub letter : (bytes more : List ℕ) (b : ℕ) → after_blanks bytes ≡ b ∷ more → ends_word more ≡ true → words_of bytes ≡ (b ∷ []) ∷ words_of more
letter bytes more b e ends =
    let h = ended_front more ends in
    words_at bytes b more e ∙ ap (λ (word : List ℕ). (b ∷ word) ∷ words_of (after_word more)) h.0 ∙ ap (λ (rest : List ℕ). (b ∷ []) ∷ words_of rest) h.1

-- no such word
pub no_letter : (bytes : List ℕ) → ((more : List ℕ) → after_blanks bytes ≡ 100 ∷ more → ⊥) → begins_with (codes "d") (words_of bytes) ≡ false
no_letter bytes none = by (after_blanks bytes) refl
  where
    by : (word : List ℕ) → after_blanks bytes ≡ word → begins_with (codes "d") (words_of bytes) ≡ false
    by [] e = ap (begins_with (codes "d")) (words_none bytes e)
    by (b ∷ more) e = at (b == 100) refl
      where
        at : (t : Bool) → (b == 100) ≡ t → begins_with (codes "d") (words_of bytes) ≡ false
        at true t = absurd (none more (e ∙ ap (λ (x : ℕ). x ∷ more) (eqb-true b 100 t)))
        at false t = ap (begins_with (codes "d")) (words_at bytes b more e) ∙ rw t refl

pub longer_word : (bytes more : List ℕ) → after_blanks bytes ≡ 100 ∷ more → ends_word more ≡ false → begins_with (codes "d") (words_of bytes) ≡ false
longer_word bytes [] e goes_on = absurd (let never : true ≡ false = goes_on in cc)
longer_word bytes (c ∷ more) e goes_on = ap (begins_with (codes "d")) (words_at bytes 100 (c ∷ more) e) ∙ rw goes_on refl

pub not_zero : (n : ℕ) → (n ≡ 0 → ⊥) → (n == 0) ≡ false
not_zero n apart = elim (eqb_tells n 0) [
  | inl (t, zero) ↦ absurd (apart zero)
  | inr (f, same) ↦ f
]

-- a number after a minus that is not 0
pub negative_some : (n : ℕ) → (n ≡ 0 → ⊥) → negative n ≡ Some (record { minus = true; number = n })
negative_some n apart = rw (not_zero n apart) refl

none_zero : (n : ℕ) → 0 < n → (n == 0) ≡ false
none_zero n some = elim (eqb_tells n 0) [
  | inl (t, zero) ↦ absurd (omega (arith, some, zero))
  | inr (f, apart) ↦ f
]

-- whether a word is left
pub is_left : (bytes word : List ℕ) → word ≡ after_blanks bytes → (length word == 0) ≡ (length (words_of bytes) == 0)
is_left bytes [] w = sym (ap (λ (words : List (List ℕ)). length words == 0) (words_none bytes (sym w)))
is_left bytes (b ∷ more) w =
    none_zero (length (b ∷ more)) (omega arith)
    ∙ sym (ap (λ (words : List (List ℕ)). length words == 0) (words_at bytes b more (sym w)) ∙ none_zero (length ((b ∷ word_front more) ∷ words_of (after_word more))) (omega arith))

-- ---- the digits at the front

not_some : (bytes : List ℕ) → length bytes ≡ 0 → is_some bytes ≡ false
not_some [] e = refl
not_some (b ∷ bytes) e = absurd (let never : ⊥ = omega (arith, e) in never)

-- the digits are not too large a number, are some, and have no leading zero
pub natural_some : (digits : List ℕ) (n : ℕ) → list_all is_ascii_digit digits ≡ true → 0 < length digits → (get_or digits 0 0 ≡ 48 → length digits ≡ 1) → n ≡ value_of digits → n < 18446744073709551616 → natural_of digits ≡ Some n
unfolding is_natural
natural_some [] n all some zero is fits = absurd (let never : ⊥ = omega (arith, some) in never)
natural_some (b ∷ digits) n all some zero is fits =
    let small : nat_lt (value_of (b ∷ digits)) 18446744073709551616 ≡ true = subst (λ (v : ℕ). nat_lt v 18446744073709551616 ≡ true) is (lt-ltb n 18446744073709551616 fits) in
    by (b == 48) refl small
  where
    by : (t : Bool) → (b == 48) ≡ t → nat_lt (value_of (b ∷ digits)) 18446744073709551616 ≡ true → natural_of (b ∷ digits) ≡ Some n
    by true t small =
        let one : length digits ≡ 0 = (let l = zero (eqb-true b 48 t) in omega (arith, l)) in
        rw (all, t, not_some digits one, small) (ap (λ (v : ℕ). Some v) (sym is))
    by false t small = rw (all, t, small) (ap (λ (v : ℕ). Some v) (sym is))

pub natural_no_digit : (digits : List ℕ) → length digits ≡ 0 → natural_of digits ≡ None
unfolding is_natural
natural_no_digit [] none = refl
natural_no_digit (b ∷ digits) none = absurd (let never : ⊥ = omega (arith, none) in never)

pub natural_leading : (digits : List ℕ) → get_or digits 0 0 ≡ 48 → 1 < length digits → natural_of digits ≡ None
unfolding is_natural
natural_leading [] zero long = absurd (let never : ⊥ = omega (arith, long) in never)
natural_leading (b ∷ []) zero long = absurd (let never : ⊥ = omega (arith, long) in never)
natural_leading (b ∷ c ∷ digits) zero long = by (list_all is_ascii_digit (b ∷ c ∷ digits)) refl
  where
    is : (b == 48) ≡ true
    is = eq-eqb b 48 zero

    by : (t : Bool) → list_all is_ascii_digit (b ∷ c ∷ digits) ≡ t → natural_of (b ∷ c ∷ digits) ≡ None
    by true t = rw (t, is) refl
    by false t = rw t refl

pub natural_large : (digits : List ℕ) → 18446744073709551616 ≤ value_of digits → natural_of digits ≡ None
unfolding is_natural
natural_large [] large = refl
natural_large (b ∷ digits) large = by (list_all is_ascii_digit (b ∷ digits)) refl (not (b == 48) || not (is_some digits)) refl
  where
    over : nat_lt (value_of (b ∷ digits)) 18446744073709551616 ≡ false
    over = le-ltb (value_of (b ∷ digits)) 18446744073709551616 large

    by : (t : Bool) → list_all is_ascii_digit (b ∷ digits) ≡ t → (z : Bool) → (not (b == 48) || not (is_some digits)) ≡ z → natural_of (b ∷ digits) ≡ None
    by true t true z = rw (t, z, over) refl
    by true t false z = rw (t, z) refl
    by false t z e = rw t refl

-- one digit more
pub digits_more : (b : ℕ) (bytes : List ℕ) → is_ascii_digit b ≡ true → (digits_front (b ∷ bytes) ≡ b ∷ digits_front bytes) × (after_digits (b ∷ bytes) ≡ after_digits bytes)
digits_more b bytes d = (rw d refl, rw d refl)

-- the first digit is the first byte, where there is a digit
pub first_digit : (bytes : List ℕ) → 0 < length (digits_front bytes) → get_or (digits_front bytes) 0 0 ≡ get_or bytes 0 0
first_digit [] some = refl
first_digit (b ∷ bytes) some = by (is_ascii_digit b) refl
  where
    by : (t : Bool) → is_ascii_digit b ≡ t → get_or (digits_front (b ∷ bytes)) 0 0 ≡ get_or (b ∷ bytes) 0 0
    by true d = rw d refl
    by false d = absurd (let none : digits_front (b ∷ bytes) ≡ [] = rw d refl in let long = ap (λ (ds : List ℕ). length ds) none in let never : ⊥ = omega (arith, long, some) in never)
