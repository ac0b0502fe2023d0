use Rattle.std.proofs.Common.{arith, zero, suc, ◌≡◌, ◌==◌, ℕ, ◌+◌, ◌-◌, ◌*◌, ◌/◌, ◌%◌, ◌<◌, ◌≤◌, List, [], ◌∷◌, ◌++◌, Bool, true, false, not, refl, sym, subst, if◌then◌else◌, ◌⊎◌, inl, inr}
use Rattle.std.proofs.lemmas.Bool.Decides.{nat_tests}
use Rattle.gt_core.specs.Literal.{opposite, holds, is_in, range, range_from}
pub use Rattle.containers.proofs.published.CodeLaw.{opposite_twice, opposite_holds}
use Rattle.gt_core.proofs.published.Pairwise.{among_left, among_right}
use Rattle.gt_core.proofs.published.Basics.{Among, passing, any_at, or_split, or_left, or_right, same_test, test_same, apart}

-- Literals, and numbers in lists.

pub holds_add : (s : ℕ → Bool) (f : ℕ) → holds s (2 * f) ≡ s f
holds_add s f = let d : (2 * f) / 2 ≡ f = omega arith in let m : ((2 * f) % 2 == 0) ≡ true = grind (arith, nat_tests) in rw (m, d)

pub holds_delete : (s : ℕ → Bool) (f : ℕ) → holds s (2 * f + 1) ≡ not (s f)
holds_delete s f = let d : (2 * f + 1) / 2 ≡ f = omega arith in let m : ((2 * f + 1) % 2 == 0) ≡ false = grind (arith, nat_tests) in rw (m, d)

pub half_opposite : (l : ℕ) → opposite l / 2 ≡ l / 2
half_opposite l = by (l % 2 == 0) refl
  where
    by : (b : Bool) → (l % 2 == 0) ≡ b → (if b then l + 1 else l - 1) / 2 ≡ l / 2
    by true e = let m : l % 2 ≡ 0 = grind (arith, nat_tests) in omega arith
    by false e = let m : l % 2 ≡ 1 = grind (arith, nat_tests) in omega arith

-- a literal in two states that give its fact one truth
pub holds_same : (s u : ℕ → Bool) (l : ℕ) → s (l / 2) ≡ u (l / 2) → holds s l ≡ holds u l
holds_same s u l e = rw e

pub add_is_even : (l f : ℕ) → l ≡ 2 * f → (l % 2 == 0) ≡ true
add_is_even l f e = grind (arith, nat_tests)

pub add_opposite : (l f : ℕ) → l ≡ 2 * f → opposite l ≡ 2 * f + 1
add_opposite l f e = let m : (l % 2 == 0) ≡ true = add_is_even l f e in rw (m, e)

pub delete_is_odd : (l f : ℕ) → l ≡ 2 * f + 1 → (l % 2 == 0) ≡ false
delete_is_odd l f e = grind (arith, nat_tests)

pub delete_opposite : (l f : ℕ) → l ≡ 2 * f + 1 → opposite l ≡ 2 * f
delete_opposite l f e = let m : (l % 2 == 0) ≡ false = delete_is_odd l f e in rw m (omega arith)

pub even_is_add : (l : ℕ) → (l % 2 == 0) ≡ true → l ≡ 2 * (l / 2)
even_is_add l e = let m : l % 2 ≡ 0 = grind (arith, nat_tests) in omega arith

pub odd_is_delete : (l : ℕ) → (l % 2 == 0) ≡ false → l ≡ 2 * (l / 2) + 1
odd_is_delete l e = let m : l % 2 ≡ 1 = grind (arith, nat_tests) in omega arith

pub in_among : (xs : List ℕ) (x : ℕ) → is_in xs x ≡ true → Among x xs
in_among xs x h = let p = passing (λ y. y == x) xs h in subst (λ (y : ℕ). Among y xs) (test_same _ _ p.passes) p.among

pub among_in : (xs : List ℕ) (x : ℕ) → Among x xs → is_in xs x ≡ true
among_in xs x a = any_at (λ y. y == x) xs x a (same_test x x refl)

pub in_split : (xs ys : List ℕ) (x : ℕ) → is_in (xs ++ ys) x ≡ true → (is_in xs x ≡ true) ⊎ (is_in ys x ≡ true)
in_split [] ys x h = inr h
in_split (y ∷ xs) ys x h =
    elim (or_split (y == x) _ h) [
      | inl e ↦ inl (or_left _ _ e)
      | inr e ↦ elim (in_split xs ys x e) [ inl i ↦ inl (or_right _ _ i) | inr i ↦ inr i ]
    ]

pub in_left : (xs ys : List ℕ) (x : ℕ) → is_in xs x ≡ true → is_in (xs ++ ys) x ≡ true
in_left xs ys x h = among_in (xs ++ ys) x (among_left xs ys x (in_among xs x h))

pub in_right : (xs ys : List ℕ) (x : ℕ) → is_in ys x ≡ true → is_in (xs ++ ys) x ≡ true
in_right xs ys x h = among_in (xs ++ ys) x (among_right xs ys x (in_among ys x h))

among_by : (n first f : ℕ) (b : Bool) → (first == f) ≡ b → (b ≡ false → Among f (range_from (first + 1) n)) → Among f (range_from first (suc n))
among_by n first f true e on = inl (sym (test_same first f e))
among_by n first f false e on = inr (on refl)

pub among_range : (n first f : ℕ) → first ≤ f → f < first + n → Among f (range_from first n)
among_range zero first f l h = absurd (omega arith)
among_range (suc n) first f l h =
    among_by n first f (first == f) refl (λ e.
    let ne : first ≡ f → ⊥ = λ s. apart (first == f) (same_test first f s) e in
    among_range n (first + 1) f (omega arith) (omega arith))

pub in_range : (n first f : ℕ) → Among f (range_from first n) → f < first + n
in_range zero first f a = absurd a
in_range (suc n) first f (inl e) = omega arith
in_range (suc n) first f (inr a) = let h = in_range n (first + 1) f a in omega arith

pub below_range : (n f : ℕ) → Among f (range n) → f < n
below_range n f a = let h = in_range n 0 f a in omega arith
