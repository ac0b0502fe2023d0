use Rattle.std.proofs.Common.{arith, ◌≡◌, ◌==◌, ℕ, ◌+◌, ◌*◌, ◌/◌, ◌%◌, Bool, true, false, refl, sym, ap, ◌∙◌, if◌then◌else◌}
use Rattle.std.proofs.lemmas.Bool.Decides.{nat_tests}
use Rattle.gt_core.specs.Literal.{opposite}
use Rattle.formula_defs.specs.Layout.{Layout, width, action_at, conditional_at, fact_at}
use Rattle.gt_core.proofs.published.Literals.{half_opposite, even_is_add, odd_is_delete, add_opposite, delete_opposite}
use Rattle.formula_defs.specs.Clause.{Is, Not, code}
use Rattle.formula_defs.specs.Formula.{literal_over}

-- The numbers of the variables of horizon 1.

pub act_is : (z : Layout) (a : ℕ) → action_at z 0 a ≡ a
act_is z a = omega arith

pub conditional_is : (z : Layout) (j : ℕ) → conditional_at z 0 j ≡ z.actions + j
conditional_is z j = omega arith

pub now_is : (z : Layout) (f : ℕ) → z.horizon ≡ 1 → fact_at z 0 f ≡ width z + f
now_is z f h = let e = ap (λ (k : ℕ). k * width z) h in omega (arith, e)

pub later_is : (z : Layout) (f : ℕ) → z.horizon ≡ 1 → fact_at z 1 f ≡ width z + z.facts + f
later_is z f h = let e = ap (λ (k : ℕ). k * width z) h in omega (arith, e)

-- the variable of a fact literal, and its opposite

pub over_half : (fact : ℕ → ℕ) (l : ℕ) → code (literal_over fact l) / 2 ≡ fact (l / 2)
over_half fact l = by (l % 2 == 0)
  where
    by : (b : Bool) → code (if b then Is (fact (l / 2)) else Not (fact (l / 2))) / 2 ≡ fact (l / 2)
    by true = omega arith
    by false = omega arith

pub over_opposite : (fact : ℕ → ℕ) (l : ℕ) → code (literal_over fact (opposite l)) ≡ opposite (code (literal_over fact l))
over_opposite fact l = by (l % 2 == 0) refl
  where
    by : (b : Bool) → (l % 2 == 0) ≡ b → code (literal_over fact (opposite l)) ≡ opposite (code (literal_over fact l))
    by true e =
        let o = add_opposite l (l / 2) (even_is_add l e) in
        let odd : (opposite l % 2 == 0) ≡ false = let m : opposite l % 2 ≡ 1 = omega (arith, o) in grind (arith, nat_tests) in
        let h = half_opposite l in
        ap (λ (b : Bool). code (if b then Is (fact (opposite l / 2)) else Not (fact (opposite l / 2)))) odd
        ∙ ap (λ (k : ℕ). 2 * fact k + 1) h
        ∙ sym (add_opposite (2 * fact (l / 2)) (fact (l / 2)) refl)
        ∙ ap (λ (b : Bool). opposite (code (if b then Is (fact (l / 2)) else Not (fact (l / 2))))) (sym e)
    by false e =
        let o = delete_opposite l (l / 2) (odd_is_delete l e) in
        let even : (opposite l % 2 == 0) ≡ true = let m : opposite l % 2 ≡ 0 = omega (arith, o) in grind (arith, nat_tests) in
        let h = half_opposite l in
        ap (λ (b : Bool). code (if b then Is (fact (opposite l / 2)) else Not (fact (opposite l / 2)))) even
        ∙ ap (λ (k : ℕ). 2 * fact k) h
        ∙ sym (delete_opposite (2 * fact (l / 2) + 1) (fact (l / 2)) refl)
        ∙ ap (λ (b : Bool). opposite (code (if b then Is (fact (l / 2)) else Not (fact (l / 2))))) (sym e)
