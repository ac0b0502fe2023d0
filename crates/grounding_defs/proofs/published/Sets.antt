-- Sorted lists: a sorted set has the members of its list, and is the one sorted list of them.
use Rattle.std.proofs.Common.{◌≡◌, List, [], ◌∷◌, Bool, true, false, refl, sym, ◌∙◌, cond, subst, IsTrue, ◌⊎◌, inl, inr}
use Rattle.std.specs.List.{list_any, list_all, filter, AllByRecursion}
use Rattle.gt_core.proofs.published.Basics.{Among, passing, any_at, all_at, all_from, each_at, each_from, same_if}
use Rattle.grounding_defs.specs.Sorted.{IsSorted, insert_in, sorted_set}
use Rattle.grounding_defs.proofs.published.Orders.{IsOrder}

module _ {X : Type 0} (less : X → X → Bool) (order : IsOrder less) where
  inserted_among : (x : X) (ys : List X) (z : X) → Among z (insert_in less x ys) → (z ≡ x) ⊎ Among z ys
  inserted_among x [] z a = a
  inserted_among x (y ∷ ys) z a = step (less x y) (less y x) (inserted_among x ys z) a
    where
      step : (b c : Bool) → (Among z (insert_in less x ys) → (z ≡ x) ⊎ Among z ys) → Among z (cond b (x ∷ y ∷ ys) (cond c (y ∷ insert_in less x ys) (y ∷ ys))) → (z ≡ x) ⊎ Among z (y ∷ ys)
      step true c ih h = h
      step false true ih (inl e) = inr (inl e)
      step false true ih (inr h) = elim (ih h) [ inl e ↦ inl e | inr k ↦ inr (inr k) ]
      step false false ih h = inr h

  among_inserted : (x : X) (ys : List X) (z : X) → (z ≡ x) ⊎ Among z ys → Among z (insert_in less x ys)
  among_inserted x [] z a = a
  among_inserted x (y ∷ ys) z a = step (less x y) (less y x) refl refl (among_inserted x ys z) a
    where
      step : (b c : Bool) → less x y ≡ b → less y x ≡ c → ((z ≡ x) ⊎ Among z ys → Among z (insert_in less x ys)) → (z ≡ x) ⊎ Among z (y ∷ ys) → Among z (cond b (x ∷ y ∷ ys) (cond c (y ∷ insert_in less x ys) (y ∷ ys)))
      step true c s t ih h = h
      step false true s t ih (inl e) = inr (ih (inl e))
      step false true s t ih (inr (inl e)) = inl e
      step false true s t ih (inr (inr h)) = inr (ih (inr h))
      step false false s t ih (inl e) = inl (e ∙ order.total x y s t)
      step false false s t ih (inr h) = h

  pub sorted_among : (xs : List X) (z : X) → Among z (sorted_set less xs) → Among z xs
  sorted_among [] z a = a
  sorted_among (x ∷ xs) z a = elim (inserted_among x (sorted_set less xs) z a) [ inl e ↦ inl e | inr h ↦ inr (sorted_among xs z h) ]

  pub among_sorted : (xs : List X) (z : X) → Among z xs → Among z (sorted_set less xs)
  among_sorted [] z a = a
  among_sorted (x ∷ xs) z (inl e) = among_inserted x (sorted_set less xs) z (inl e)
  among_sorted (x ∷ xs) z (inr h) = among_inserted x (sorted_set less xs) z (inr (among_sorted xs z h))

  -- a sorted set passes a test where its list does
  pub all_sorted : (p : X → Bool) (xs : List X) → list_all p (sorted_set less xs) ≡ list_all p xs
  all_sorted p xs =
      same_if _ _
      (λ t. all_from p xs (λ x a. all_at p (sorted_set less xs) x t (among_sorted xs x a)))
      (λ t. all_from p (sorted_set less xs) (λ x a. all_at p xs x t (sorted_among xs x a)))

  pub any_sorted : (p : X → Bool) (xs : List X) → list_any p (sorted_set less xs) ≡ list_any p xs
  any_sorted p xs =
      same_if _ _
      (λ t. let found = passing p (sorted_set less xs) t in any_at p xs found.one (sorted_among xs found.one found.among) found.passes)
      (λ t. let found = passing p xs t in any_at p (sorted_set less xs) found.one (among_sorted xs found.one found.among) found.passes)

  pub each_sorted : (P : X → Type 0) (xs : List X) → AllByRecursion P xs → AllByRecursion P (sorted_set less xs)
  each_sorted P xs all = each_from P (sorted_set less xs) (λ x a. each_at P xs x all (sorted_among xs x a))

  insert_is_sorted : (x : X) (ys : List X) → IsSorted less ys → IsSorted less (insert_in less x ys)
  insert_is_sorted x [] s = (tt, tt)
  insert_is_sorted x (y ∷ ys) s = step (less x y) (less y x) refl refl (insert_is_sorted x ys s.1)
    where
      step : (b c : Bool) → less x y ≡ b → less y x ≡ c → IsSorted less (insert_in less x ys) → IsSorted less (cond b (x ∷ y ∷ ys) (cond c (y ∷ insert_in less x ys) (y ∷ ys)))
      step true c e f rest = ((e, each_from (λ z. IsTrue (less x z)) ys (λ z a. order.along x y z e (each_at (λ u. IsTrue (less y u)) ys z s.0 a))), s)
      step false true e f rest = (
        each_from (λ z. IsTrue (less y z)) (insert_in less x ys) (λ z a. elim (inserted_among x ys z a) [
          | inl k ↦ subst (λ (u : X). less y u ≡ true) (sym k) f
          | inr k ↦ each_at (λ u. IsTrue (less y u)) ys z s.0 k
        ]),
        rest,
      )
      step false false e f rest = s

  pub is_sorted : (xs : List X) → IsSorted less (sorted_set less xs)
  is_sorted [] = tt
  is_sorted (x ∷ xs) = insert_is_sorted x (sorted_set less xs) (is_sorted xs)

  pub not_less : (x : X) → less x x ≡ true → ⊥
  not_less x t = order.apart x x t t

  same_heads : (x y : X) (xs ys : List X) → IsSorted less (x ∷ xs) → IsSorted less (y ∷ ys) → Among x (y ∷ ys) → Among y (x ∷ xs) → x ≡ y
  same_heads x y xs ys s t (inl e) k = e
  same_heads x y xs ys s t (inr h) (inl e) = sym e
  same_heads x y xs ys s t (inr h) (inr k) = absurd (order.apart x y (each_at (λ u. IsTrue (less x u)) xs y s.0 k) (each_at (λ u. IsTrue (less y u)) ys x t.0 h))

  in_tail : (x y : X) (xs ys : List X) (z : X) → IsSorted less (x ∷ xs) → x ≡ y → Among z xs → Among z (y ∷ ys) → Among z ys
  in_tail x y xs ys z s e a (inl k) = absurd (not_less x (subst (λ (u : X). less x u ≡ true) (k ∙ sym e) (each_at (λ u. IsTrue (less x u)) xs z s.0 a)))
  in_tail x y xs ys z s e a (inr k) = k

  -- two sorted lists with the same members are one
  pub unique : (xs ys : List X) → IsSorted less xs → IsSorted less ys → ((z : X) → Among z xs → Among z ys) → ((z : X) → Among z ys → Among z xs) → xs ≡ ys
  unique [] [] s t to from = refl
  unique [] (y ∷ ys) s t to from = absurd (from y (inl refl))
  unique (x ∷ xs) [] s t to from = absurd (to x (inl refl))
  unique (x ∷ xs) (y ∷ ys) s t to from =
      let heads = same_heads x y xs ys s t (to x (inl refl)) (from y (inl refl)) in
      let tails = unique xs ys s.1 t.1 (λ z a. in_tail x y xs ys z s heads a (to z (inr a))) (λ z a. in_tail y x ys xs z t (sym heads) a (from z (inr a))) in
      λ i. heads i ∷ tails i

  -- a part of a sorted list is sorted
  pub filter_is_sorted : (p : X → Bool) (xs : List X) → IsSorted less xs → IsSorted less (filter p xs)
  filter_is_sorted p [] s = tt
  filter_is_sorted p (x ∷ xs) s = step (p x) (filter_is_sorted p xs s.1)
    where
      each_kept : (P : X → Type 0) (ys : List X) → AllByRecursion P ys → AllByRecursion P (filter p ys)
      each_kept P [] all = tt
      each_kept P (y ∷ ys) all = keep (p y) (each_kept P ys all.1)
        where
          keep : (b : Bool) → AllByRecursion P (filter p ys) → AllByRecursion P (cond b (y ∷ filter p ys) (filter p ys))
          keep true rest = (all.0, rest)
          keep false rest = rest

      step : (b : Bool) → IsSorted less (filter p xs) → IsSorted less (cond b (x ∷ filter p xs) (filter p xs))
      step true rest = (each_kept (λ y. IsTrue (less x y)) xs s.0, rest)
      step false rest = rest
