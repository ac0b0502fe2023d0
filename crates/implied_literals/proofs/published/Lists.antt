use Rattle.std.proofs.Common.{◌≡◌, List, [], ◌∷◌, ◌++◌, Bool, true, refl, inl, inr, subst}
use Rattle.std.specs.List.{list_any, AllByRecursion}
use Rattle.gt_core.proofs.published.Basics.{Among, passing, or_left, or_right}
use Rattle.implied_literals.specs.Breaks.{AnyByRecursion}

-- Some and all elements of a list.

module _ {A : Type 0} where
  pub any_map : (P Q : A → Type 0) → ((x : A) → P x → Q x) → (xs : List A) → AnyByRecursion P xs → AnyByRecursion Q xs
  any_map P Q f [] a = absurd a
  any_map P Q f (x ∷ xs) (inl p) = inl (f x p)
  any_map P Q f (x ∷ xs) (inr a) = inr (any_map P Q f xs a)

  pub any_map_in : (P Q : A → Type 0) (xs : List A) → ((x : A) → Among x xs → P x → Q x) → AnyByRecursion P xs → AnyByRecursion Q xs
  any_map_in P Q [] f a = absurd a
  any_map_in P Q (x ∷ xs) f (inl p) = inl (f x (inl refl) p)
  any_map_in P Q (x ∷ xs) f (inr a) = inr (any_map_in P Q xs (λ y i. f y (inr i)) a)

  pub any_from : (P : A → Type 0) (xs : List A) (x : A) → Among x xs → ((y : A) → x ≡ y → P y) → AnyByRecursion P xs
  any_from P [] x a p = absurd a
  any_from P (y ∷ ys) x (inl e) p = inl (p y e)
  any_from P (y ∷ ys) x (inr a) p = inr (any_from P ys x a p)

  pub any_here : (P : A → Type 0) (xs : List A) (x : A) → Among x xs → P x → AnyByRecursion P xs
  any_here P xs x a p = any_from P xs x a (λ y e. subst P e p)

  pub all_map : (P Q : A → Type 0) → ((x : A) → P x → Q x) → (xs : List A) → AllByRecursion P xs → AllByRecursion Q xs
  all_map P Q f [] a = tt
  all_map P Q f (x ∷ xs) a = (f x a.0, all_map P Q f xs a.1)

  pub all_joined : (P : A → Type 0) (xs ys : List A) → AllByRecursion P xs → AllByRecursion P ys → AllByRecursion P (xs ++ ys)
  all_joined P [] ys a b = b
  all_joined P (x ∷ xs) ys a b = (a.0, all_joined P xs ys a.1 b)

  -- a test that passes where a fact holds
  pub any_test : (P : A → Type 0) (p : A → Bool) (xs : List A) → ((x : A) → Among x xs → P x → p x ≡ true) → AnyByRecursion P xs → list_any p xs ≡ true
  any_test P p [] f a = absurd a
  any_test P p (x ∷ xs) f (inl h) = or_left (p x) (list_any p xs) (f x (inl refl) h)
  any_test P p (x ∷ xs) f (inr a) = or_right (p x) (list_any p xs) (any_test P p xs (λ y i. f y (inr i)) a)

  pub test_any : (P : A → Type 0) (p : A → Bool) (xs : List A) → ((x : A) → Among x xs → p x ≡ true → P x) → list_any p xs ≡ true → AnyByRecursion P xs
  test_any P p xs f t = let q = passing p xs t in any_here P xs q.one q.among (f q.one q.among q.passes)
