-- What stands where in a list.
use Rattle.std.proofs.Common.{◌≡◌, ℕ, zero, suc, ◌+◌, ◌<◌, List, [], ◌∷◌, ◌++◌, map, length, slice_index_or, sym, refl, ap, ◌∙◌, arith}
use Rattle.std.proofs.lemmas.List.Elements.{All-tail}
use Rattle.std.specs.List.{All, AllAdjacentBelow}
use mathlib.Core.Option.{some, some-injective, some-ne-none}
use lib.ListN.{get_elem?}
use Rattle.solver_pool.specs.Job.{Differ}

module _ {A : Type 0} where
  pub at_here : (l : List A) (x : A) (r : List A) → get_elem? (l ++ x ∷ r) (length l) ≡ some x
  at_here [] x r = refl
  at_here (a ∷ l) x r = at_here l x r

  pub in_range : (l : List A) (k : ℕ) (a : A) → get_elem? l k ≡ some a → k < length l
  in_range [] k a e = absurd (some-ne-none a (sym e))
  in_range (b ∷ l) zero a e = omega arith
  in_range (b ∷ l) (suc k) a e = let h = in_range l k a e in omega (arith, h)

  pub at_mid : (P : A → Type 0) (l : List A) (x : A) (r : List A) → All P (l ++ x ∷ r) → P x
  at_mid P [] x r h = h 0 x (omega arith)
  at_mid P (a ∷ l) x r h = at_mid P l x r (All-tail P a (l ++ x ∷ r) h)

  -- the item at a place
  pub at_index : (l : List A) (k : ℕ) (d : A) → k < length l → get_elem? l k ≡ some (slice_index_or l k d)
  at_index [] k d lt = absurd (omega (arith, lt))
  at_index (a ∷ l) zero d lt = refl
  at_index (a ∷ l) (suc k) d lt = at_index l k d (omega (arith, lt))

pub at_mapped : {A B : Type 0} (f : A → B) (l : List A) (k : ℕ) (b : B) → get_elem? (map f l) k ≡ some b → (a : A) × (get_elem? l k ≡ some a) × (f a ≡ b)
at_mapped f [] k b e = absurd (some-ne-none b (sym e))
at_mapped f (a ∷ l) zero b e = (a, refl, some-injective (f a) b e)
at_mapped f (a ∷ l) (suc k) b e = at_mapped f l k b e

pub differ_from_rising : {A : Type 0} (key : A → ℕ) (l : List A) → ((i j : ℕ) (d : A) → i < j → j < length l → key (slice_index_or l i d) < key (slice_index_or l j d)) → Differ key l
differ_from_rising key l rises i j a b p q e =
    let li = in_range l i a p in
    let lj = in_range l j b q in
    let ia : key (slice_index_or l i a) ≡ key a = ap key (some-injective (slice_index_or l i a) a (sym (at_index l i a li) ∙ p)) in
    let jb : key (slice_index_or l j a) ≡ key b = ap key (some-injective (slice_index_or l j a) b (sym (at_index l j a lj) ∙ q)) in
    let one : ¬ (i < j) = λ lt. let r = rises i j a lt lj in omega (arith, r, ia, jb, e) in
    let two : ¬ (j < i) = λ lt. let r = rises j i a lt li in omega (arith, r, ia, jb, e) in
    omega (arith, one, two)

-- an item whose key is below the one before it
pub not_rising : {A : Type 0} (key : A → ℕ) (l : List A) (i least : ℕ) (x : A) → i < length l → x ≡ slice_index_or l i x → (i ≡ 0 → least ≡ 0) → ((k : ℕ) (d : A) → k + 1 ≡ i → least ≡ key (slice_index_or l k d) + 1)
    → key x < least → AllAdjacentBelow (λ a b. key a < key b) l (length l) → ⊥
not_rising key l zero least x lt is none last under up = let z = none refl in omega (arith, z, under)
not_rising key l (suc k) least x lt is none last under up =
    let at : k + 1 ≡ suc k = omega arith in
    let e = last k x at in
    let u : key (slice_index_or l k x) < key (slice_index_or l (k + 1) x) = up k x (omega (arith, lt)) in
    let same : key x ≡ key (slice_index_or l (k + 1) x) = ap key is ∙ ap (λ (n : ℕ). key (slice_index_or l n x)) (sym at) in
    omega (arith, e, u, same, under)
