use Rattle.std.proofs.Common.{arith, ◌≡◌, ◌==◌, ℕ, zero, suc, ◌+◌, ◌/◌, ◌<◌, List, [], ◌∷◌, drop, slice_get, Some, Bool, true, false, ◌||◌, if◌then◌else◌, refl, ap, subst, ◌∙◌, ◌⊎◌, inl, inr}
use Rattle.std.specs.List.{flat_map, AllByRecursion}
use Rattle.gt_core.specs.Interference.{has_clause}
use Rattle.gt_core.specs.Clauses.{IsClause}
use Rattle.gt_core.proofs.published.Basics.{same_test, apart}
use Rattle.formula_defs.specs.Clause.{code}
use Rattle.formula_defs.specs.Formula.{literal_over, is_single, pair_clause}
use Rattle.formula_defs.specs.Coded.{coded, literals_in}
use Rattle.formula_defs.proofs.published.SizeLaw.{single_clause, literals_append}
use Rattle.formula_defs.proofs.published.ClauseSize.{two_size}
use Rattle.step_formula.proofs.KnownLaw.{single_is, known_step}
use Rattle.step_formula.proofs.Names.{over_half}

-- How many literals the known pairs have at one time.

one_size : (known : List (ℕ × ℕ)) (l m : ℕ) → (l ≡ m) ⊎ (l / 2 < m / 2) → literals_in (coded (pair_clause (λ f. f) known (l, m))) ≡ (if l == m then 1 else if is_single known l || is_single known m then 0 else 2)
one_size known l m c = by (l == m) refl (is_single known l || is_single known m)
  where
    single : literals_in (coded ((literal_over (λ f. f) l ∷ []) ∷ [])) ≡ 1
    single = ap literals_in (single_clause (code (literal_over (λ f. f) l)) [])

    by : (b : Bool) → (l == m) ≡ b → (d : Bool) → literals_in (coded (if b then (literal_over (λ f. f) l ∷ []) ∷ [] else if d then [] else (literal_over (λ f. f) l ∷ literal_over (λ f. f) m ∷ []) ∷ [])) ≡ (if b then 1 else if d then 0 else 2)
    by true t d = single
    by false t true = refl
    by false t false =
        let ne : l / 2 ≡ m / 2 → ⊥ = λ q. elim c [ inl s ↦ apart (l == m) (same_test l m s) t | inr s ↦ omega (arith, s, q) ] in
        two_size (code (literal_over (λ f. f) l)) (code (literal_over (λ f. f) m)) (l / 2) (m / 2) [] (over_half (λ f. f) l) (over_half (λ f. f) m) ne

at_place : (P : ℕ × ℕ → Type 0) (xs : List (ℕ × ℕ)) (i : ℕ) (c : ℕ × ℕ) → AllByRecursion P xs → slice_get xs i ≡ Some c → P c
at_place P [] i c w e = absurd (cc)
at_place P (x ∷ xs) zero c w e = let s : x ≡ c = cc in subst P s w.0
at_place P (x ∷ xs) (suc i) c w e = at_place P xs i c w.1 e

-- one more
pub known_size_next : (facts : ℕ) (known : List (ℕ × ℕ)) (i : ℕ) (c d : ℕ × ℕ) (size one : ℕ) → AllByRecursion (IsClause facts) known → slice_get known i ≡ Some c
    → one ≡ (if c.0 == c.1 then 1 else if has_clause known c.0 c.0 || has_clause known c.1 c.1 then 0 else 2)
    → size + literals_in (coded (flat_map (pair_clause (λ f. f) known) (drop i known))) ≡ size + one + literals_in (coded (flat_map (pair_clause (λ f. f) known) (drop (i + 1) known)))
known_size_next facts known i c d size one w at o =
    let parted = known_step known i c d (coded (flat_map (pair_clause (λ f. f) known) (drop i known))) [] (coded (pair_clause (λ f. f) known c)) at refl refl in
    let sizes = ap literals_in parted ∙ literals_append (coded (pair_clause (λ f. f) known c)) (coded (flat_map (pair_clause (λ f. f) known) (drop (i + 1) known))) in
    let s = one_size known c.0 c.1 (at_place (IsClause facts) known i c w at).2 in
    let o2 = o ∙ ap (λ (b : Bool). if c.0 == c.1 then 1 else if b || has_clause known c.1 c.1 then 0 else 2) (single_is known c.0) ∙ ap (λ (b : Bool). if c.0 == c.1 then 1 else if is_single known c.0 || b then 0 else 2) (single_is known c.1) in
    omega (arith, sizes, s, o2)
