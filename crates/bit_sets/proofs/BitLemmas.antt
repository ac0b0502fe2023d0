use Rattle.std.proofs.Common.{arith, ◌≡◌, ◌==◌, ℕ, zero, suc, ◌+◌, ◌*◌, ◌/◌, ◌%◌, ◌<◌, ◌≤◌, List, [], ◌∷◌, length, get_or, leb, ◌++◌, Bool, true, false, not, refl, sym, ap, ◌∙◌, Some, ltb}
use Rattle.std.proofs.lemmas.Bool.Decides.{nat_tests}
use Rattle.bit_sets.proofs.published.WordLaw.{zero_has}
use Rattle.bit_sets.specs.Layered.{word_has, words_have, IsLeast, IsAbove, IsPast, IsLeastNear}

above_zero : (words : List ℕ) (p : ℕ → Bool) (j : ℕ) → IsAbove words p → p j ≡ false → get_or words j 0 ≡ 0
above_zero words p j a e = by (get_or words j 0 == 0) refl
  where
    by : (c : Bool) → (get_or words j 0 == 0) ≡ c → get_or words j 0 ≡ 0
    by true f = grind (arith, nat_tests)
    by false f = let z : true ≡ false = ap not (sym f) ∙ sym (a j) ∙ e in cc

pub above_full : (words : List ℕ) (p : ℕ → Bool) (j : ℕ) → IsAbove words p → p j ≡ true → 0 < get_or words j 0
above_full words p j a e = by (get_or words j 0 == 0) refl
  where
    by : (c : Bool) → (get_or words j 0 == 0) ≡ c → 0 < get_or words j 0
    by true f = let z : false ≡ true = ap not (sym f) ∙ sym (a j) ∙ e in cc
    by false f = grind (arith, nat_tests)

-- a word that is not 0 is in its list
pub inside_full : (words : List ℕ) (j : ℕ) → 0 < get_or words j 0 → j < length words
inside_full [] zero h = absurd (omega (arith, h))
inside_full [] (suc j) h = absurd (omega (arith, h))
inside_full (w ∷ words) zero h = omega arith
inside_full (w ∷ words) (suc j) h = omega (arith, inside_full words j h)

-- past a number the least of all is the least bit of the least word near it that is not 0
pub near_least : (words : List ℕ) (p : ℕ → Bool) (past next bit : ℕ) → IsAbove words p → IsPast (words_have words) (Some past)
    → IsLeastNear p (past / 64) next → bit < 64 → IsLeast (word_has (get_or words next 0)) (Some bit) → IsLeast (words_have words) (Some (64 * next + bit))
near_least words p past next bit a before l h b =
    let q : (64 * next + bit) / 64 ≡ next = grind arith in
    let r : (64 * next + bit) % 64 ≡ bit = grind arith in (
      ap (λ (i : ℕ). word_has (get_or words i 0) ((64 * next + bit) % 64)) q ∙ ap (word_has (get_or words next 0)) r ∙ b.0,
      λ j k. by j k (leb j past) refl (ltb (j / 64) next) refl,
    )
  where
    by : (j : ℕ) → j < 64 * next + bit → (c : Bool) → leb j past ≡ c → (d : Bool) → ltb (j / 64) next ≡ d → words_have words j ≡ false
    by j k true f d g = before j (grind (arith, nat_tests))
    by j k false f true g =
        let u : past < j = grind (arith, nat_tests) in
        let v : j / 64 < next = grind (arith, nat_tests) in
        let near = l.near in
        let same : j / 64 / 64 ≡ past / 64 / 64 = omega (arith, u, v, near) in
        ap (λ (w : ℕ). word_has w (j % 64)) (above_zero words p (j / 64) a (l.none (j / 64) same v)) ∙ zero_has (j % 64)
    by j k false f false g =
        let v : next ≤ j / 64 = grind (arith, nat_tests) in
        let e : j / 64 ≡ next = omega (arith, k, v, h) in
        let s : j % 64 < bit = omega (arith, k, v, h) in
        ap (λ (i : ℕ). word_has (get_or words i 0) (j % 64)) e ∙ b.1 (j % 64) s

-- one more word that is 0 changes no number
pub get_push_zero : (words : List ℕ) (j : ℕ) → get_or (words ++ 0 ∷ []) j 0 ≡ get_or words j 0
get_push_zero [] zero = refl
get_push_zero [] (suc j) = refl
get_push_zero (w ∷ words) zero = refl
get_push_zero (w ∷ words) (suc j) = get_push_zero words j
