-- What is told after a number more, and after the words of a line.
use Rattle.std.proofs.Common.{◌≡◌, ◌==◌, ◌&&◌, not, ℕ, List, [], ◌∷◌, ◌++◌, length, drop, Bool, true, false, Option, Some, None, option_map, refl, sym, ap, subst, ◌∙◌, arith, inl, inr}
use Rattle.std.specs.Prelude.{nat_le, codes, option_and_then}
use Rattle.std.specs.Str.{bytes_eq}
use Rattle.std.proofs.lemmas.Bool.{eq-eqb, eqb-true}
use Rattle.std.proofs.lemmas.Bool.Decides.{eqb_tells}
use Rattle.sat_text.specs.declared.words.Signed.{Signed}
use Rattle.sat_text.specs.Words.{first_number}
use Rattle.sat_text.specs.Values.{Told, tells, numbers_of, numbers_told, is_satisfiable, with_number, with_numbers}
use Rattle.sat_text.specs.Stands.{Holds, ReaderView, HasTold, Goes}

-- what is told after words that are numbers
abbrev pub from_words : ℕ → Told → List (List ℕ) → Option Told
from_words variables told words = option_and_then (with_numbers variables told) (numbers_of words)

module _ (variables : ℕ) (told : Told) where
  -- ---- a number

  abbrev may : Signed → Bool
  may n = nat_le n.number variables && not (tells told.literals n.number (not n.minus))

  pub ended_none : (n : Signed) → told.ended ≡ true → with_number variables told n ≡ None
  unfolding with_number
  ended_none n ended = rw ended refl

  pub zero_ends : (n : Signed) → told.ended ≡ false → n.number ≡ 0 → with_number variables told n ≡ Some (record { literals = told.literals; ended = true })
  unfolding with_number
  zero_ends n going zero = rw (going, eq-eqb n.number 0 zero) refl

  not_zero : (n : ℕ) → (n ≡ 0 → ⊥) → (n == 0) ≡ false
  not_zero n apart = elim (eqb_tells n 0) [
    | inl (t, zero) ↦ absurd (apart zero)
    | inr (f, _) ↦ f
  ]

  literal_after : (n : Signed) → told.ended ≡ false → (n.number ≡ 0 → ⊥) → may n ≡ true → with_number variables told n ≡ Some (record { literals = told.literals ++ n ∷ []; ended = false })
  unfolding with_number
  literal_after n going some may_is = rw (going, not_zero n.number some, may_is) refl

  literal_none : (n : Signed) → told.ended ≡ false → (n.number ≡ 0 → ⊥) → may n ≡ false → with_number variables told n ≡ None
  unfolding with_number
  literal_none n going some may_not = rw (going, not_zero n.number some, may_not) refl

  -- a literal that a table takes, or not
  pub literal_goes : (n : Signed) (answer : Bool) (reader : ReaderView) → told.ended ≡ false → (n.number ≡ 0 → ⊥) → reader.ended ≡ false
      → (answer ≡ true → (may n ≡ true) × Holds variables (told.literals ++ n ∷ []) reader.table) → (answer ≡ false → may n ≡ false) → Goes answer variables reader (with_number variables told n)
  literal_goes n true reader going some unended taken refused =
      let t = taken refl in subst (Goes true variables reader) (sym (literal_after n going some t.0)) (refl, record { holds = t.1; ended = unended })
  literal_goes n false reader going some unended taken refused = subst (Goes false variables reader) (sym (literal_none n going some (refused refl))) refl

  -- ---- numbers

  pub words_over : (words : List (List ℕ)) → (length words == 0) ≡ true → from_words variables told words ≡ Some told
  words_over [] e = refl
  words_over (word ∷ words) e = absurd (let none = eqb-true (length (word ∷ words)) 0 e in omega (arith, none))

  pub words_bad : (words : List (List ℕ)) → (length words == 0) ≡ false → first_number words ≡ None → from_words variables told words ≡ None
  words_bad [] e none = absurd (let never : true ≡ false = e in cc)
  words_bad (word ∷ words) e none = rw none refl

  pub words_on : (words : List (List ℕ)) (n : Signed) (next : Told) → first_number words ≡ Some n → with_number variables told n ≡ Some next → from_words variables told words ≡ from_words variables next (drop 1 words)
  words_on [] n next is more = absurd (let never : None ≡ Some n = is in cc)
  words_on (word ∷ words) n next is more = rw is (by (numbers_of words))
    where
      by : (o : Option (List Signed)) → option_and_then (with_numbers variables told) (option_map (λ ns. n ∷ ns) o) ≡ option_and_then (with_numbers variables next) o
      by None = refl
      by (Some ns) = rw more refl

  pub words_stop : (words : List (List ℕ)) (n : Signed) → first_number words ≡ Some n → with_number variables told n ≡ None → from_words variables told words ≡ None
  words_stop [] n is none = absurd (let never : None ≡ Some n = is in cc)
  words_stop (word ∷ words) n is none = rw is (by (numbers_of words))
    where
      by : (o : Option (List Signed)) → option_and_then (with_numbers variables told) (option_map (λ ns. n ∷ ns) o) ≡ None
      by None = refl
      by (Some ns) = rw none refl

  -- ---- the words of a line

  abbrev pub line_told : List (List ℕ) → Option Told
  line_told words = option_and_then (with_numbers variables told) (numbers_told words)

  pub empty_told : (words : List (List ℕ)) → words ≡ [] → line_told words ≡ Some told
  unfolding numbers_told
  empty_told words none = rw none refl

  module _ (word : List ℕ) (words line : List (List ℕ)) (is : line ≡ word ∷ words) where
    pub comment_told : bytes_eq word (codes "c") ≡ true → line_told line ≡ Some told
    unfolding numbers_told
    comment_told c = ap line_told is ∙ rw c refl

    pub values_told : bytes_eq word (codes "c") ≡ false → bytes_eq word (codes "v") ≡ true → line_told line ≡ from_words variables told words
    unfolding numbers_told
    values_told c v = ap line_told is ∙ rw (c, v) refl

    pub found_told : (answer : Bool) (reader : ReaderView) → bytes_eq word (codes "c") ≡ false → bytes_eq word (codes "v") ≡ false → answer ≡ (bytes_eq word (codes "s") && is_satisfiable words) → HasTold variables told reader
        → Goes answer variables reader (line_told line)
    unfolding numbers_told
    found_told true reader c v s has =
        let found : line_told (word ∷ words) ≡ Some told = rw (c, v, sym s) refl in
        let same : line_told line ≡ Some told = ap line_told is ∙ found in
        subst (Goes true variables reader) (sym same) (refl, has)
    found_told false reader c v s has =
        let none : line_told (word ∷ words) ≡ None = rw (c, v, sym s) refl in
        let same : line_told line ≡ None = ap line_told is ∙ none in
        subst (Goes false variables reader) (sym same) refl

-- where that is none, or this
pub goes_none : (variables : ℕ) (reader : ReaderView) (o : Option Told) → o ≡ None → Goes false variables reader o
goes_none variables reader o none = subst (Goes false variables reader) (sym none) refl

pub goes_some : (variables : ℕ) (reader : ReaderView) (o : Option Told) (told : Told) → o ≡ Some told → HasTold variables told reader → Goes true variables reader o
goes_some variables reader o told is has = subst (Goes true variables reader) (sym is) (refl, has)

-- what was said of an option is so of another that is the same
pub goes_as : (answer : Bool) (variables : ℕ) (reader : ReaderView) (o p : Option Told) → o ≡ p → Goes answer variables reader p → Goes answer variables reader o
goes_as answer variables reader o p same h = subst (Goes answer variables reader) (sym same) h

-- what was told, where it goes on, and that it is none, where it does not
pub went : (variables : ℕ) (reader : ReaderView) (o : Option Told) → Goes true variables reader o → (told : Told) × (o ≡ Some told) × HasTold variables told reader
went variables reader None h = absurd (let never : true ≡ false = h in cc)
went variables reader (Some told) h = (told, refl, h.1)

pub went_not : (variables : ℕ) (reader : ReaderView) (o : Option Told) → Goes false variables reader o → o ≡ None
went_not variables reader None h = refl
went_not variables reader (Some told) h = absurd (let never : false ≡ true = h.0 in cc)

-- a reader with the same table, and the same end
pub goes_same : (answer : Bool) (variables : ℕ) (reader other : ReaderView) (o : Option Told) → other.table ≡ reader.table → other.ended ≡ reader.ended → Goes answer variables reader o → Goes answer variables other o
goes_same answer variables reader other None table ended h = h
goes_same answer variables reader other (Some told) table ended h = (h.0, record { holds = subst (Holds variables told.literals) (sym table) h.1.holds; ended = ended ∙ h.1.ended })
