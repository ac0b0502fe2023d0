-- Sums over a list in which one item changes.
use Rattle.std.proofs.Common.{map, Bool, cond, ◌≡◌, ℕ, zero, suc, ◌+◌, ◌<◌, ◌≤◌, length, List, [], ◌∷◌, set, sym, refl, ap, subst, arith}
use Rattle.std.specs.List.{sum_by}
use Rattle.std.proofs.lemmas.List.Sums.{sum_by-cons}
use mathlib.Core.Option.{some, some-injective, some-ne-none}
use lib.ListN.{get_elem?}

-- a term of a count
abbrev pub one_if : Bool → ℕ
one_if b = cond b 1 0

module _ {A : Type 0} (f : A → ℕ) where
  pub sum_there : (l : List A) (i : ℕ) (x y : A) → get_elem? l i ≡ some x → sum_by f (set l i y) + f x ≡ sum_by f l + f y
  sum_there [] i x y e = absurd (some-ne-none x (sym e))
  sum_there (a ∷ l) zero x y e = let same : f a ≡ f x = ap f (some-injective a x e) in omega (arith, sum_by-cons f a l, sum_by-cons f y l)
  sum_there (a ∷ l) (suc i) x y e = let rest = sum_there l i x y e in omega (arith, sum_by-cons f a l, sum_by-cons f a (set l i y))

  -- a sum that is 0 has no term
  pub no_term : (l : List A) (i : ℕ) (x : A) → sum_by f l ≡ 0 → get_elem? l i ≡ some x → f x ≡ 0
  no_term [] i x z e = absurd (some-ne-none x (sym e))
  no_term (a ∷ l) zero x z e = let same : f a ≡ f x = ap f (some-injective a x e) in omega (arith, sum_by-cons f a l)
  no_term (a ∷ l) (suc i) x z e = no_term l i x (omega (arith, sum_by-cons f a l)) e

  -- a sum of no terms is 0
  pub no_sum : (l : List A) → ((i : ℕ) (x : A) → get_elem? l i ≡ some x → f x ≡ 0) → sum_by f l ≡ 0
  no_sum [] h = refl
  no_sum (a ∷ l) h = let head = h 0 a refl in let rest = no_sum l (λ i x e. h (suc i) x e) in omega (arith, sum_by-cons f a l)

pub sum_ones : {A : Type 0} (l : List A) → sum_by (λ _. 1) l ≡ length l
sum_ones [] = refl
sum_ones (a ∷ l) = let rest = sum_ones l in omega (arith, sum_by-cons (λ _. 1) a l)

pub sums_of : {A B : Type 0} (h : A → List B) (l : List A) → sum_by (λ a. sum_by (λ _. 1) (h a)) l ≡ sum_by (λ a. length (h a)) l
sums_of h [] = refl
sums_of h (a ∷ l) = let rest = sums_of h l in omega (arith, sum_ones (h a), sum_by-cons (λ a. sum_by (λ _. 1) (h a)) a l, sum_by-cons (λ a. length (h a)) a l)

module _ {A : Type 0} (f h : A → ℕ) where
  pub sum_le : (l : List A) → ((i : ℕ) (x : A) → get_elem? l i ≡ some x → f x ≤ h x) → sum_by f l ≤ sum_by h l
  sum_le [] le = omega arith
  sum_le (a ∷ l) le = let head = le 0 a refl in let rest = sum_le l (λ i x e. le (suc i) x e) in omega (arith, head, rest, sum_by-cons f a l, sum_by-cons h a l)

  pub sum_lt : (l : List A) (i : ℕ) (x : A) → get_elem? l i ≡ some x → f x < h x → ((i : ℕ) (x : A) → get_elem? l i ≡ some x → f x ≤ h x) → sum_by f l < sum_by h l
  sum_lt [] i x e lt le = absurd (some-ne-none x (sym e))
  sum_lt (a ∷ l) zero x e lt le = let here : f a < h a = subst (λ (y : A). f y < h y) (sym (some-injective a x e)) lt in let rest = sum_le l (λ i x e. le (suc i) x e) in omega (arith, here, rest, sum_by-cons f a l, sum_by-cons h a l)
  sum_lt (a ∷ l) (suc i) x e lt le = let head = le 0 a refl in let rest = sum_lt l i x e lt (λ i x e. le (suc i) x e) in omega (arith, head, rest, sum_by-cons f a l, sum_by-cons h a l)

-- a sum over what a function makes of a list
pub sum_by-map : {A B : Type 0} (f : B → ℕ) (h : A → B) (l : List A) → sum_by f (map h l) ≡ sum_by (λ a. f (h a)) l
sum_by-map f h [] = refl
sum_by-map f h (a ∷ l) = let rest = sum_by-map f h l in omega (arith, rest, sum_by-cons f (h a) (map h l), sum_by-cons (λ a. f (h a)) a l)
