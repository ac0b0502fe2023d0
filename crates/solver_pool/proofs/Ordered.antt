-- Lists that rise by a key: which items they have decides them.
use Rattle.std.proofs.Common.{◌≡◌, ℕ, zero, suc, ◌+◌, ◌<◌, List, [], ◌∷◌, map, length, slice_index_or, IsPermutation, sym, refl, ap, ◌∙◌, subst, ◌⊎◌, ⊎_elim, inl, inr, arith}
use Rattle.std.specs.List.{All, AllAdjacentBelow}
use Rattle.std.proofs.lemmas.List.Sorted.{IsPermutation-sym, All-permutation}
use mathlib.Core.Option.{some, some-injective, some-ne-none}
use lib.ListN.{get_elem?}
use Rattle.solver_pool.proofs.Places.{at_index, in_range}

-- an item stands in a list
pub record Stands {A : Type 0} (l : List A) (a : A) : Type 0 where
  pub place : ℕ
  pub at : get_elem? l place ≡ some a

less_or_same : (i j : ℕ) → i < j + 1 → (i < j) ⊎ (i ≡ j)
less_or_same zero zero lt = inr refl
less_or_same zero (suc j) lt = inl (omega arith)
less_or_same (suc i) zero lt = absurd (omega (arith, lt))
less_or_same (suc i) (suc j) lt = ⊎_elim (λ (a : i < j). inl (omega (arith, a))) (λ (e : i ≡ j). inr (ap suc e)) (less_or_same i j (omega (arith, lt)))

module _ {A : Type 0} (key : A → ℕ) where
  abbrev pub Rises : List A → Type 0
  Rises l = AllAdjacentBelow (λ a b. key a < key b) l (length l)

  -- of two places the later one has the greater key
  rises : (l : List A) → Rises l → (i j : ℕ) (d : A) → i < j → j < length l → key (slice_index_or l i d) < key (slice_index_or l j d)
  rises l up i zero d lt here = absurd (omega (arith, lt))
  rises l up i (suc j) d lt here =
      let next : j + 1 ≡ suc j = omega arith in
      let last : key (slice_index_or l j d) < key (slice_index_or l (suc j) d) = subst (λ (n : ℕ). key (slice_index_or l j d) < key (slice_index_or l n d)) next (up j d (omega (arith, here))) in
      ⊎_elim (λ (a : i < j). let first = rises l up i j d a (omega (arith, here)) in omega (arith, first, last))
      (λ (e : i ≡ j). subst (λ (n : ℕ). key (slice_index_or l n d) < key (slice_index_or l (suc j) d)) (sym e) last)
      (less_or_same i j (omega (arith, lt)))

  first_below : (x : A) (l : List A) (k : ℕ) (a : A) → Rises (x ∷ l) → get_elem? l k ≡ some a → key x < key a
  first_below x l k a up at =
      let here = in_range l k a at in
      let is : key (slice_index_or l k x) ≡ key a = ap key (some-injective (slice_index_or l k x) a (sym (at_index l k x here) ∙ at)) in
      let below : key x < key (slice_index_or l k x) = rises (x ∷ l) up 0 (suc k) x (omega arith) (omega (arith, here)) in
      omega (arith, is, below)

  rises_tail : (x : A) (l : List A) → Rises (x ∷ l) → Rises l
  rises_tail x l up k d lt =
      let next : suc k + 1 ≡ suc (k + 1) = omega arith in
      subst (λ (n : ℕ). key (slice_index_or l k d) < key (slice_index_or (x ∷ l) n d)) next (up (suc k) d (omega (arith, lt)))

  behind : (x a : A) (y : A) (ys : List A) (j : ℕ) → x ≡ y → key x < key a → get_elem? (y ∷ ys) j ≡ some a → Stands ys a
  behind x a y ys zero same above e = let is : key x ≡ key a = ap key (same ∙ some-injective y a e) in absurd (omega (arith, is, above))
  behind x a y ys (suc j) same above e = record { place = j; at = e }

  -- what stands in a tail stands in the other tail, where the heads are the same
  in_tail : (x y : A) (xs ys : List A) → x ≡ y → Rises (x ∷ xs) → ((a : A) → Stands (x ∷ xs) a → Stands (y ∷ ys) a) → (a : A) → Stands xs a → Stands ys a
  in_tail x y xs ys same up there a s =
      let found = there a record { place = suc s.place; at = s.at } in
      behind x a y ys found.place same (first_below x xs s.place a up s.at) found.at

  -- the first items of two such lists are the same
  same_first : (x y : A) (xs ys : List A) (i j : ℕ) → Rises (x ∷ xs) → Rises (y ∷ ys) → get_elem? (y ∷ ys) i ≡ some x → get_elem? (x ∷ xs) j ≡ some y → x ≡ y
  same_first x y xs ys zero j up also p q = sym (some-injective y x p)
  same_first x y xs ys (suc i) zero up also p q = some-injective x y q
  same_first x y xs ys (suc i) (suc j) up also p q = let under = first_below y ys i x also p in let over = first_below x xs j y up q in absurd (omega (arith, under, over))

  same_lists : (xs ys : List A) → Rises xs → Rises ys → ((a : A) → Stands xs a → Stands ys a) → ((a : A) → Stands ys a → Stands xs a) → xs ≡ ys
  same_lists [] [] up also there back = refl
  same_lists [] (y ∷ ys) up also there back = let s = back y record { place = 0; at = refl } in absurd (some-ne-none y (sym s.at))
  same_lists (x ∷ xs) [] up also there back = let s = there x record { place = 0; at = refl } in absurd (some-ne-none x (sym s.at))
  same_lists (x ∷ xs) (y ∷ ys) up also there back =
      let a = there x record { place = 0; at = refl } in
      let b = back y record { place = 0; at = refl } in
      let same = same_first x y xs ys a.place b.place up also a.at b.at in
      let rest = same_lists xs ys (rises_tail x xs up) (rises_tail y ys also) (in_tail x y xs ys same up there) (in_tail y x ys xs (sym same) also back) in
      λ i. same i ∷ rest i

  all_stand : (l : List A) → All (λ a. Stands l a) l
  all_stand l k d lt = record { place = k; at = at_index l k d lt }

  stands_there : (xs ys : List A) → IsPermutation xs ys → (a : A) → Stands ys a → Stands xs a
  stands_there xs ys same a s =
      let lt = in_range ys s.place a s.at in
      let is : slice_index_or ys s.place a ≡ a = some-injective (slice_index_or ys s.place a) a (sym (at_index ys s.place a lt) ∙ s.at) in
      subst (λ (x : A). Stands xs x) is (All-permutation (λ (x : A). Stands xs x) xs ys same (all_stand xs) s.place a lt)

  -- two lists that rise and have the same items are the same
  pub same_rising : (xs ys : List A) → IsPermutation xs ys → Rises xs → Rises ys → ys ≡ xs
  same_rising xs ys same up also = same_lists ys xs also up (stands_there xs ys same) (stands_there ys xs (IsPermutation-sym xs ys same))

pub rises_map : {A B : Type 0} (f : A → B) (key : B → ℕ) (l : List A) → Rises (λ a. key (f a)) l → Rises key (map f l)
rises_map f key [] up k d lt = absurd (omega (arith, lt))
rises_map f key (a ∷ []) up k d lt = absurd (omega (arith, lt))
rises_map f key (a ∷ b ∷ l) up zero d lt = up 0 a (omega arith)
rises_map f key (a ∷ b ∷ l) up (suc k) d lt =
    let next : suc (k + 1) ≡ suc k + 1 = omega arith in
    let rest = rises_map f key (b ∷ l) (rises_tail (λ x. key (f x)) a (b ∷ l) up) k d (omega (arith, lt)) in
    subst (λ (n : ℕ). key (slice_index_or (map f (b ∷ l)) k d) < key (slice_index_or (map f (a ∷ b ∷ l)) n d)) next rest
