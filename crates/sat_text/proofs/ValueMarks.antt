-- What a table tells after a literal more.
use Rattle.std.proofs.Common.{◌≡◌, ◌≢◌, ◌==◌, ◌&&◌, ◌||◌, ◌<◌, ◌≤◌, ◌+◌, not, ℕ, List, [], ◌∷◌, ◌++◌, length, get_or, set, Bool, true, false, if◌then◌else◌, refl, sym, ap, ◌∙◌, arith, inl, inr, length-set, subst}
use Rattle.std.specs.Prelude.{nat_le}
use Rattle.std.proofs.Math.Bool.{or-true}
use Rattle.std.proofs.lemmas.Bool.{eq-eqb, le-leb, lt-leb}
use Rattle.std.proofs.lemmas.Bool.Decides.{eqb_tells}
use Rattle.std.proofs.lemmas.List.{ext_get_or, get_or-set_other}
use Rattle.std.proofs.lemmas.List.FromFn.{length-map-range_with_len, get_or-map-range_with_len}
use Rattle.std.proofs.lemmas.Grind.{get_or-set_at}
use Rattle.sat_text.specs.declared.words.Signed.{Signed}
use Rattle.sat_text.specs.Values.{tells, values_told}
use Rattle.sat_text.specs.Stands.{Table, Marks, Holds}

-- whether a literal is told with a minus, or without one
abbrev is_signed : Signed → Bool → Bool
is_signed told minus = if minus then told.minus else not told.minus

-- whether it is that of a variable
abbrev is_literal : Signed → ℕ → Bool → Bool
is_literal told v minus = told.number == v && is_signed told minus

tells_same : (literals : List Signed) (told : Signed) (v : ℕ) (minus : Bool) → is_literal told v minus ≡ false → tells (literals ++ told ∷ []) v minus ≡ tells literals v minus
tells_same [] told v minus e = rw e refl
tells_same (l ∷ literals) told v minus e = ap (λ (b : Bool). is_literal l v minus || b) (tells_same literals told v minus e)

tells_new : (literals : List Signed) (told : Signed) (v : ℕ) (minus : Bool) → is_literal told v minus ≡ true → tells (literals ++ told ∷ []) v minus ≡ true
tells_new [] told v minus e = rw e refl
tells_new (l ∷ literals) told v minus e = ap (λ (b : Bool). is_literal l v minus || b) (tells_new literals told v minus e) ∙ or-true (is_literal l v minus)

other_variable : (n v : ℕ) → n ≢ v → (n == v) ≡ false
other_variable n v apart = elim (eqb_tells n v) [
  | inl (t, same) ↦ absurd (apart same)
  | inr (f, _) ↦ f
]

no_literal : (told : Signed) (v : ℕ) (minus : Bool) → is_signed told minus ≡ false → is_literal told v minus ≡ false
no_literal told v minus e = by (told.number == v) refl
  where
    by : (b : Bool) → (told.number == v) ≡ b → is_literal told v minus ≡ false
    by true f = rw f e
    by false f = rw f refl

-- Rows of so many variables after this literal.
module _ (variables : ℕ) (literals : List Signed) (told : Signed) where
  -- the row of its sign has a mark more
  set_marks : (minus : Bool) (row : List Bool) (place : ℕ) → Marks variables literals minus row → place < variables → told.number ≡ place + 1 → is_signed told minus ≡ true → Marks variables (literals ++ told ∷ []) minus (set row place true)
  set_marks minus row place h less number signed = record {
    long = length-set row place true ∙ h.long;
    marks = λ v lt. elim (eqb_tells v place) [
      | inl (t, same) ↦
          let within : place < length row = (let l = h.long in omega (arith, l, less)) in
          let here : told.number ≡ v + 1 = omega (arith, number, same) in
          get_or-set_at row place v true false same within ∙ sym (tells_new literals told (v + 1) minus (rw (eq-eqb told.number (v + 1) here) signed))
      | inr (f, apart) ↦
          let there : told.number ≢ v + 1 = λ e. apart (omega (arith, number, e)) in
          get_or-set_other row place v true false apart ∙ h.marks v lt ∙ sym (tells_same literals told (v + 1) minus (rw (other_variable told.number (v + 1) there) refl))
    ];
  }

  -- the row of the other sign stays
  keep_marks : (minus : Bool) (row : List Bool) → Marks variables literals minus row → is_signed told minus ≡ false → Marks variables (literals ++ told ∷ []) minus row
  keep_marks minus row h signed = record { long = h.long; marks = λ v lt. h.marks v lt ∙ sym (tells_same literals told (v + 1) minus (no_literal told (v + 1) minus signed)) }

  -- whether it may be told
  abbrev pub may : Bool
  may = nat_le told.number variables && not (tells literals told.number (not told.minus))

  module _ (table : Table) (place : ℕ) (holds : Holds variables literals table) (number : told.number ≡ place + 1) where
    -- there is no such variable
    pub refused_past : length table.truths ≤ place → may ≡ false
    refused_past past =
        let l = holds.truths.long in
        let over : nat_le told.number variables ≡ false = lt-leb told.number variables (omega (arith, l, number, past)) in rw over refl

    module _ (within : place < length table.truths) where
      less : place < variables
      less = let l = holds.truths.long in omega (arith, l, within)

      fits : nat_le told.number variables ≡ true
      fits = let l = less in le-leb told.number variables (omega (arith, l, number))

      -- the literal of its variable with a sign
      at_number : (minus : Bool) (row : List Bool) → Marks variables literals minus row → tells literals told.number minus ≡ get_or row place false
      at_number minus row h = ap (λ (v : ℕ). tells literals v minus) number ∙ sym (h.marks place less)

      free : (minus b : Bool) → told.minus ≡ not minus → tells literals told.number minus ≡ b → may ≡ not b
      free true b sign is = rw (fits, sign, is) refl
      free false b sign is = rw (fits, sign, is) refl

      pub taken_minus : (row : List Bool) → told.minus ≡ true → get_or table.truths place false ≡ false → row ≡ set table.falsehoods place true → (may ≡ true) × Holds variables (literals ++ told ∷ []) (record { truths = table.truths; falsehoods = row })
      taken_minus row sign none is = (
        free false false sign (at_number false table.truths holds.truths ∙ none),
        record {
          truths = keep_marks false table.truths holds.truths (rw sign refl);
          falsehoods = subst (Marks variables (literals ++ told ∷ []) true) (sym is) (set_marks true table.falsehoods place holds.falsehoods less number sign);
        },
      )

      pub taken_plain : (row : List Bool) → told.minus ≡ false → get_or table.falsehoods place false ≡ false → row ≡ set table.truths place true → (may ≡ true) × Holds variables (literals ++ told ∷ []) (record { truths = row; falsehoods = table.falsehoods })
      taken_plain row sign none is = (
        free true false sign (at_number true table.falsehoods holds.falsehoods ∙ none),
        record {
          truths = subst (Marks variables (literals ++ told ∷ []) false) (sym is) (set_marks false table.truths place holds.truths less number (rw sign refl));
          falsehoods = keep_marks true table.falsehoods holds.falsehoods sign;
        },
      )

      pub refused_minus : told.minus ≡ true → get_or table.truths place false ≡ true → may ≡ false
      refused_minus sign some = free false true sign (at_number false table.truths holds.truths ∙ some)

      pub refused_plain : told.minus ≡ false → get_or table.falsehoods place false ≡ true → may ≡ false
      refused_plain sign some = free true true sign (at_number true table.falsehoods holds.falsehoods ∙ some)

-- a row is the values that are told
pub row_is : (variables : ℕ) (literals : List Signed) (row : List Bool) → Marks variables literals false row → row ≡ values_told variables literals
row_is variables literals row h =
    ext_get_or false row (values_told variables literals) (h.long ∙ sym (length-map-range_with_len (λ (v : ℕ). tells literals (v + 1) false) 0 variables))
    (λ v lt. let less : v < variables = (let l = h.long in omega (arith, l, lt)) in h.marks v less ∙ sym (get_or-map-range_with_len (λ (v : ℕ). tells literals (v + 1) false) 0 variables v v false less (omega arith)))

pub values_long : (variables : ℕ) (literals : List Signed) → length (values_told variables literals) ≡ variables
values_long variables literals = length-map-range_with_len (λ (v : ℕ). tells literals (v + 1) false) 0 variables
