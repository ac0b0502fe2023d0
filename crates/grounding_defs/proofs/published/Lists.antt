-- Lists that were mapped, filtered or joined: tests of them, and what lies at a number.
use Rattle.std.proofs.Common.{arith, ◌≡◌, ℕ, ◌<◌, zero, suc, List, [], ◌∷◌, Bool, true, false, ◌&&◌, ◌||◌, refl, ap, ◌∙◌, cond, map, length, Some}
use Rattle.std.specs.Prelude.{slice_get, slice_index_or}
use Rattle.std.specs.List.{list_any, filter, flat_map}
use Rattle.std.proofs.lemmas.List.Folds.{list_any-append}

pub any_map : {X Y : Type 0} (p : Y → Bool) (f : X → Y) (xs : List X) → list_any p (map f xs) ≡ list_any (λ x. p (f x)) xs
any_map p f [] = refl
any_map p f (x ∷ xs) = ap (λ (t : Bool). p (f x) || t) (any_map p f xs)

any_filter_step : {X : Type 0} (p : X → Bool) (x : X) (rest : List X) (more keep : Bool) → list_any p rest ≡ more → list_any p (cond keep (x ∷ rest) rest) ≡ ((keep && p x) || more)
any_filter_step p x rest more true e = ap (λ (t : Bool). p x || t) e
any_filter_step p x rest more false e = e

pub any_filter : {X : Type 0} (p q : X → Bool) (xs : List X) → list_any p (filter q xs) ≡ list_any (λ x. q x && p x) xs
any_filter p q [] = refl
any_filter p q (x ∷ xs) = any_filter_step p x (filter q xs) (list_any (λ y. q y && p y) xs) (q x) (any_filter p q xs)

pub any_flat_map : {X Y : Type 0} (p : Y → Bool) (f : X → List Y) (xs : List X) → list_any p (flat_map f xs) ≡ list_any (λ x. list_any p (f x)) xs
any_flat_map p f [] = refl
any_flat_map p f (x ∷ xs) = list_any-append p (f x) (flat_map f xs) ∙ ap (λ (t : Bool). list_any p (f x) || t) (any_flat_map p f xs)

none_passes : {X : Type 0} (xs : List X) → list_any (λ x. false) xs ≡ false
none_passes [] = refl
none_passes (x ∷ xs) = none_passes xs

-- a part of the test that is the same for each element
pub any_guarded : {X : Type 0} (b : Bool) (p : X → Bool) (xs : List X) → list_any (λ x. b && p x) xs ≡ (b && list_any p xs)
any_guarded true p xs = refl
any_guarded false p xs = none_passes xs

-- what lies at a number of a list that was mapped
pub get_mapped : {X Y : Type 0} (f : X → Y) (xs : List X) (k : ℕ) (x : X) → slice_get xs k ≡ Some x → slice_get (map f xs) k ≡ Some (f x)
get_mapped f [] k x e = cc
get_mapped f (y ∷ xs) zero x e = first y x e
  where
    first : (y x : _) → Some y ≡ Some x → Some (f y) ≡ Some (f x)
    first y x h = cc
get_mapped f (y ∷ xs) (suc k) x e = get_mapped f xs k x e

pub index_mapped : {X Y : Type 0} (f : X → Y) (xs : List X) (k : ℕ) (x : X) (d : Y) → slice_get xs k ≡ Some x → slice_index_or (map f xs) k d ≡ f x
index_mapped f [] k x d e = cc
index_mapped f (y ∷ xs) zero x d e = first y x e
  where
    first : (y x : _) → Some y ≡ Some x → f y ≡ f x
    first y x h = cc
index_mapped f (y ∷ xs) (suc k) x d e = index_mapped f xs k x d e

pub below_mapped : {X Y : Type 0} (f : X → Y) (xs : List X) (k : ℕ) (x : X) → slice_get xs k ≡ Some x → k < length (map f xs)
below_mapped f [] k x e = cc
below_mapped f (y ∷ xs) zero x e = omega arith
below_mapped f (y ∷ xs) (suc k) x e = let l = below_mapped f xs k x e in omega (arith, l)

pub mapped_below : {X Y : Type 0} (f : X → Y) (xs : List X) (k : ℕ) → k < length (map f xs) → (x : X) × (slice_get xs k ≡ Some x)
mapped_below f [] k l = absurd (omega (arith, l))
mapped_below f (y ∷ xs) zero l = (y, refl)
mapped_below f (y ∷ xs) (suc k) l = mapped_below f xs k (omega (arith, l))
