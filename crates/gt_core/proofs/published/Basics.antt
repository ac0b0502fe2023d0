use Rattle.std.proofs.Common.{◌≡◌, List, [], ◌∷◌, Bool, true, false, ◌&&◌, refl, sym, ap, ◌∙◌, subst, ◌⊎◌, inl, inr}
use Rattle.std.specs.List.{list_any, list_all, AllByRecursion}
use Rattle.std.proofs.lemmas.Bool.{both_ways}
pub use Rattle.std.proofs.lemmas.Bool.{
  or_cases as or_split,
  or_left,
  or_right,
  or_parts as or_none,
  and_parts as and_split,
  and_from as and_both,
  not-true as not_split,
  not_from_false as not_false,
  false_from_ne_true as not_true,
  cases_Bool as cases,
  eq-eqb as same_test,
  eqb-true as test_same,
}

-- Tests as facts, by the library's lemmas, and membership in lists.

pub apart : (b : Bool) → b ≡ true → b ≡ false → ⊥
apart b t f = both_ways b f t

-- an element is one of a list
abbrev pub Among : {A : Type 0} → A → List A → Type 0
Among x [] = ⊥
Among x (y ∷ ys) = (x ≡ y) ⊎ Among x ys

-- some element of a list passes a test
pub record Passing {A : Type 0} (p : A → Bool) (xs : List A) : Type 0 where
  pub one : A
  pub among : Among one xs
  pub passes : p one ≡ true

pub passing : {A : Type 0} (p : A → Bool) (xs : List A) → list_any p xs ≡ true → Passing p xs
passing p [] e = cc
passing p (x ∷ xs) e =
    elim (or_split (p x) (list_any p xs) e) [
      | inl h ↦ record { one = x; among = inl refl; passes = h }
      | inr h ↦ let r = passing p xs h in record { one = r.one; among = inr r.among; passes = r.passes }
    ]

pub any_at : {A : Type 0} (p : A → Bool) (xs : List A) (x : A) → Among x xs → p x ≡ true → list_any p xs ≡ true
any_at p [] x a e = absurd a
any_at p (y ∷ ys) x (inl s) e = or_left (p y) (list_any p ys) (ap p (sym s) ∙ e)
any_at p (y ∷ ys) x (inr a) e = or_right (p y) (list_any p ys) (any_at p ys x a e)

pub all_at : {A : Type 0} (p : A → Bool) (xs : List A) (x : A) → list_all p xs ≡ true → Among x xs → p x ≡ true
all_at p [] x e a = absurd a
all_at p (y ∷ ys) x e (inl s) = ap p s ∙ (and_split (p y) (list_all p ys) e).0
all_at p (y ∷ ys) x e (inr a) = all_at p ys x (and_split (p y) (list_all p ys) e).1 a

pub all_from : {A : Type 0} (p : A → Bool) (xs : List A) → ((x : A) → Among x xs → p x ≡ true) → list_all p xs ≡ true
all_from p [] h = refl
all_from p (y ∷ ys) h = and_both (p y) (list_all p ys) (h y (inl refl)) (all_from p ys (λ x a. h x (inr a)))

pub each_at : {A : Type 0} (P : A → Type 0) (xs : List A) (x : A) → AllByRecursion P xs → Among x xs → P x
each_at P [] x h a = absurd a
each_at P (y ∷ ys) x h (inl s) = subst P (sym s) h.0
each_at P (y ∷ ys) x h (inr a) = each_at P ys x h.1 a

pub each_from : {A : Type 0} (P : A → Type 0) (xs : List A) → ((x : A) → Among x xs → P x) → AllByRecursion P xs
each_from P [] h = tt
each_from P (y ∷ ys) h = (h y (inl refl), each_from P ys (λ x a. h x (inr a)))

pub any_same : {A : Type 0} (p q : A → Bool) (xs : List A) → ((x : A) → Among x xs → p x ≡ q x) → list_any p xs ≡ list_any q xs
any_same p q [] h = refl
any_same p q (x ∷ xs) h = rw (h x (inl refl), any_same p q xs (λ y a. h y (inr a)))

pub all_same : {A : Type 0} (p q : A → Bool) (xs : List A) → ((x : A) → Among x xs → p x ≡ q x) → list_all p xs ≡ list_all q xs
all_same p q [] h = refl
all_same p q (x ∷ xs) h = rw (h x (inl refl), all_same p q xs (λ y a. h y (inr a)))

pub and_same : (b x y : Bool) → (b ≡ true → x ≡ y) → (b && x) ≡ (b && y)
and_same true x y h = h refl
and_same false x y h = refl

pub same_if : (a b : Bool) → (a ≡ true → b ≡ true) → (b ≡ true → a ≡ true) → a ≡ b
same_if true b h g = sym (h refl)
same_if false true h g = g refl
same_if false false h g = refl
