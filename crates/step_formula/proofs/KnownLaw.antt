use Rattle.std.proofs.Common.{arith, ◌≡◌, ◌==◌, ℕ, ◌+◌, ◌/◌, ◌%◌, List, [], ◌∷◌, ◌++◌, drop, slice_get, Some, Bool, true, false, ◌&&◌, ◌||◌, if◌then◌else◌, refl, ap, ◌∙◌}
use Rattle.std.specs.List.{flat_map, cons_option}
use Rattle.std.proofs.lemmas.List.{drop_more}
use Rattle.std.proofs.lemmas.Option.{slice_get_within, get_or_from_slice_get}
use Rattle.std.proofs.lemmas.Bool.Decides.{nat_tests}
use Rattle.gt_core.specs.Interference.{has_clause}
use Rattle.clause_base.specs.Clause.{clause_of}
use Rattle.formula_defs.specs.Clause.{Literal, Is, Not, code}
use Rattle.formula_defs.specs.Formula.{literal_over, is_single, pair_clause}
use Rattle.formula_defs.specs.Coded.{coded}
use Rattle.formula_defs.proofs.published.CodedLaw.{coded-append}
use Rattle.step_formula.proofs.Groups.{rest}

-- The known pairs, one by one.

-- where fact f has variable f, a literal's code is the literal
pub plain_code : (l : ℕ) → l ≡ code (literal_over (λ f. f) l)
plain_code l = by (l % 2 == 0) refl
  where
    by : (b : Bool) → (l % 2 == 0) ≡ b → l ≡ code (if b then Is (l / 2) else Not (l / 2))
    by true e = let h : l % 2 ≡ 0 = grind (arith, nat_tests) in omega (arith, h)
    by false e = let h : l % 2 ≡ 1 = grind (arith, nat_tests) in omega (arith, h)

or_self : (b : Bool) → (b || b) ≡ b
or_self true = refl
or_self false = refl

-- a literal is known by itself where its clause with itself is
pub single_is : (pairs : List (ℕ × ℕ)) (l : ℕ) → has_clause pairs l l ≡ is_single pairs l
single_is [] l = refl
single_is (c ∷ cs) l = rw (or_self ((c.0 == l) && (c.1 == l)), single_is cs l) refl

module _ (pairs : List (ℕ × ℕ)) (l m : ℕ) (before after : List (List ℕ)) where
  abbrev Known : Type 0
  Known = after ≡ before ++ coded (pair_clause (λ f. f) pairs (l, m))

  abbrev single : List (List Literal)
  single = (literal_over (λ f. f) l ∷ []) ∷ []

  abbrev double : List (List Literal)
  double = (literal_over (λ f. f) l ∷ literal_over (λ f. f) m ∷ []) ∷ []

  pub known_double : (l ≡ m → ⊥) → is_single pairs l ≡ false → is_single pairs m ≡ false → after ≡ before ++ cons_option (clause_of (l ∷ m ∷ [])) [] → Known
  known_double n s t h =
      h ∙ ap (λ (k : ℕ). before ++ cons_option (clause_of (k ∷ m ∷ [])) []) (plain_code l)
      ∙ ap (λ (k : ℕ). before ++ cons_option (clause_of (code (literal_over (λ f. f) l) ∷ k ∷ [])) []) (plain_code m)
      ∙ ap (λ (cs : List (List Literal)). before ++ coded cs) (by (l == m) (is_single pairs l) (is_single pairs m) refl s t)
    where
      by : (b c d : Bool) → (l == m) ≡ b → c ≡ false → d ≡ false → double ≡ (if b then single else if c || d then [] else double)
      by true c d e f g = let s : l ≡ m = grind (arith, nat_tests) in absurd (n s)
      by false true d e f g = cc
      by false false true e f g = cc
      by false false false e f g = refl

-- one more
pub known_step : (pairs : List (ℕ × ℕ)) (i : ℕ) (c d : ℕ × ℕ) (whole before after : List (List ℕ)) → slice_get pairs i ≡ Some c → whole ≡ before ++ coded (flat_map (pair_clause (λ f. f) pairs) (drop i pairs)) → after ≡ before ++ coded (pair_clause (λ f. f) pairs c) → whole ≡ after ++ coded (flat_map (pair_clause (λ f. f) pairs) (drop (i + 1) pairs))
known_step pairs i c d whole before after at h g =
    let lt = slice_get_within pairs i c at in
    let is = get_or_from_slice_get pairs i c d at in
    rest whole before after (coded (pair_clause (λ f. f) pairs c)) (coded (flat_map (pair_clause (λ f. f) pairs) (drop (i + 1) pairs)))
    (h ∙ ap (λ (xs : List (ℕ × ℕ)). before ++ coded (flat_map (pair_clause (λ f. f) pairs) xs)) (drop_more pairs i d lt)
    ∙ ap (λ (x : ℕ × ℕ). before ++ coded (pair_clause (λ f. f) pairs x ++ flat_map (pair_clause (λ f. f) pairs) (drop (i + 1) pairs))) is
    ∙ ap (λ (r : List (List ℕ)). before ++ r) (coded-append (pair_clause (λ f. f) pairs c) (flat_map (pair_clause (λ f. f) pairs) (drop (i + 1) pairs)))) g
