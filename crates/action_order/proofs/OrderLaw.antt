use Rattle.std.proofs.Common.{arith, ◌≡◌, ◌==◌, ℕ, zero, suc, ◌+◌, ◌<◌, ◌≤◌, List, [], ◌∷◌, ◌++◌, length, Bool, true, false, not, refl, sym, ap, ◌∙◌, subst, inl, inr, set, Some}
use Rattle.std.specs.Prelude.{slice_get, if◌then◌else◌}
use Rattle.std.specs.List.{filter, AllByRecursion}
use Rattle.std.proofs.lemmas.List.{length-append, get_or-set_same, get_or-set_other}
use Rattle.std.proofs.lemmas.Bool.{cases_lt}
use Rattle.gt_core.specs.Literal.{is_in}
use Rattle.gt_core.specs.Published.{IsListed, Pairwise, order_of}
use Rattle.gt_core.proofs.published.Basics.{each_at, each_from, apart, same_test, test_same, not_true, not_split}
use Rattle.gt_core.proofs.published.Literals.{in_among, among_in}
use Rattle.gt_core.proofs.published.Pairwise.{pairwise_filter, filtered}
use Rattle.action_order.specs.own.Graph.{item, class_at, IsClassed}
use Rattle.action_order.specs.Order.{IsOrder}
use Rattle.action_order.proofs.published.Lists.{place_of, in_at}

-- The look-ups of an order, and how long it is.

pub get_some : (xs : List ℕ) (p : ℕ) → p < length xs → slice_get xs p ≡ Some (item xs p)
get_some [] p lt = absurd (omega arith)
get_some (x ∷ xs) zero lt = refl
get_some (x ∷ xs) (suc p) lt = get_some xs p (omega arith)

-- where an action of the order is looked up
pub placed_at : (components : List (List ℕ)) (order places names : List ℕ) (a : ℕ) → IsOrder components order places names → is_in (order_of components) a ≡ true → (a < length places) × (slice_get (order_of components) (item places a) ≡ Some a)
placed_at components order places names a o i =
    let p = place_of order a (rw o.flat i) in
    let r = o.placed p.place p.within in
    let below : a < length places = subst (λ (x : ℕ). x < length places) p.is r.0 in
    let is : item places a ≡ p.place = ap (item places) (sym p.is) ∙ r.1 in
    (below, rw (← o.flat, is) (get_some order p.place p.within ∙ ap Some p.is))

-- no two places of a list with unequal elements have one element
pub unequal_places : (xs : List ℕ) → Pairwise (λ a b. (a == b) ≡ false) xs → (k p : ℕ) → k < p → p < length xs → item xs k ≡ item xs p → ⊥
unequal_places [] h k p lt lp e = omega arith
unequal_places (x ∷ xs) h zero zero lt lp e = omega arith
unequal_places (x ∷ xs) h zero (suc p) lt lp e = apart (x == item xs p) (same_test x (item xs p) e) (each_at (λ b. (x == b) ≡ false) xs (item xs p) h.0 (in_among xs (item xs p) (in_at xs p (omega arith))))
unequal_places (x ∷ xs) h (suc k) zero lt lp e = omega arith
unequal_places (x ∷ xs) h (suc k) (suc p) lt lp e = unequal_places xs h.1 k p (omega arith) (omega arith) e

abbrev Unequal : List ℕ → Type 0
Unequal xs = Pairwise (λ a b. (a == b) ≡ false) xs

abbrev without : ℕ → List ℕ → List ℕ
without n xs = filter (λ x. not (x == n)) xs

kept_by : (x : ℕ) (xs ys : List ℕ) (b : Bool) → b ≡ false → ys ≡ xs → (if not b then x ∷ ys else ys) ≡ x ∷ xs
kept_by x xs ys true e s = cc
kept_by x xs ys false e s = ap (λ (zs : List ℕ). x ∷ zs) s

-- a list without an element that it does not have
kept_whole : (n : ℕ) (xs : List ℕ) → AllByRecursion (λ x. (x == n) ≡ false) xs → without n xs ≡ xs
kept_whole n [] h = refl
kept_whole n (x ∷ xs) h = kept_by x xs (without n xs) (x == n) h.0 (kept_whole n xs h.1)

once_by : (x : ℕ) (xs ys : List ℕ) (b : Bool) → (b ≡ true → length ys ≡ length xs) → length xs ≤ length ys + 1 → length (x ∷ xs) ≤ length (if not b then x ∷ ys else ys) + 1
once_by x xs ys true same h = let e = same refl in omega arith
once_by x xs ys false same h = omega arith

-- a list of unequal elements has a number at most once
at_most_once : (n : ℕ) (xs : List ℕ) → Unequal xs → length xs ≤ length (without n xs) + 1
at_most_once n [] u = omega arith
at_most_once n (x ∷ xs) u =
    once_by x xs (without n xs) (x == n)
    (λ e.
    let same = test_same x n e in
    let none : AllByRecursion (λ y. (y == n) ≡ false) xs = each_from _ xs (λ y i. not_true (y == n) (λ s. apart (x == y) (same_test x y (same ∙ sym (test_same y n s))) (each_at (λ z. (x == z) ≡ false) xs y u.0 i))) in
    ap (length {A = ℕ}) (kept_whole n xs none))
    (at_most_once n xs u.1)

-- unequal numbers below n are at most n
pub few_unequal : (n : ℕ) (xs : List ℕ) → ((x : ℕ) → is_in xs x ≡ true → x < n) → Unequal xs → length xs ≤ n
few_unequal zero [] h u = omega arith
few_unequal zero (x ∷ xs) h u = absurd (let lt = h x (among_in (x ∷ xs) x (inl refl)) in omega arith)
few_unequal (suc n) xs h u =
    let ys = without n xs in
    let below : (x : ℕ) → is_in ys x ≡ true → x < n = λ x i.
    let p = filtered (λ x. not (x == n)) xs x (in_among ys x i) in
    let lt = h x (among_in xs x p.0) in
    let ne : x ≡ n → ⊥ = λ e. apart (x == n) (same_test x n e) (not_split (x == n) p.1) in
    omega arith in
    let r = few_unequal n ys below (pairwise_filter (λ x. not (x == n)) (λ a b. (a == b) ≡ false) (λ a b. (a == b) ≡ false) xs (λ a b x y q. q) u) in
    let once = at_most_once n xs u in omega arith

-- each listed component has an action
pub few_components : (edge : ℕ → ℕ → Bool) (actions taken : List ℕ) (components : List (List ℕ)) → IsListed edge actions taken components → length components ≤ length (order_of components)
few_components edge actions taken [] h = omega arith
few_components edge actions taken ([] ∷ rest) h = absurd h
few_components edge actions taken ((name ∷ ks) ∷ rest) h =
    let r = few_components edge actions (taken ++ name ∷ ks) rest h.1 in
    let l = length-append (name ∷ ks) (order_of rest) in omega arith

-- numbers that are below a bound at each place
pub each_below : (xs : List ℕ) (n : ℕ) → ((a : ℕ) → a < length xs → item xs a < n) → AllByRecursion (λ x. x < n) xs
each_below [] n h = tt
each_below (x ∷ xs) n h = (h 0 (omega arith), each_below xs n (λ a lt. h (suc a) (omega arith)))

-- one more place was written
pub placed_more : (order places : List ℕ) (count p : ℕ) → length places ≡ count → p < length order → item order p < count → ((k q : ℕ) → k < q → q < length order → item order k ≡ item order q → ⊥) → ((k : ℕ) → k < p → item places (item order k) ≡ k) → (k : ℕ) → k < p + 1 → item (set places (item order p) p) (item order k) ≡ k
placed_more order places count p long lp below unequal h k lk = elim (cases_lt k p) [
  | inl lt ↦ get_or-set_other places (item order p) (item order k) p 0 (λ e. unequal k p lt lp e) ∙ h k lt
  | inr ge ↦
      let s : k ≡ p = omega arith in
      subst (λ (x : ℕ). item (set places (item order p) p) (item order x) ≡ x) (sym s) (get_or-set_same places (item order p) p 0 (omega arith))
]

-- numbers at different places that differ
unequal_from : (xs : List ℕ) → ((i j : ℕ) → i < j → j < length xs → item xs i ≡ item xs j → ⊥) → Unequal xs
unequal_from [] h = tt
unequal_from (x ∷ xs) h = (
  each_from _ xs (λ y i. not_true (x == y) (λ e.
      let p = place_of xs y (among_in xs y i) in
      let w = p.within in
      h 0 (suc p.place) (omega arith) (omega arith) (test_same x y e ∙ sym p.is))),
  unequal_from xs (λ i j lt lj e. h (suc i) (suc j) (omega arith) (omega arith) e),
)

-- there are no more components than vertices
pub few_roots : (rows : List (List ℕ)) (classes roots : List ℕ) → IsClassed rows classes roots → length roots ≤ length rows
few_roots rows classes roots k =
    few_unequal (length rows) roots
    (λ x i. let p = place_of roots x i in subst (λ (y : ℕ). y < length rows) p.is (k.used p.place p.within).0)
    (unequal_from roots (λ i j lt lj e. let same = sym (k.used i (omega arith)).1 ∙ ap (class_at classes) e ∙ (k.used j lj).1 in omega arith))
