-- Jobs that were each handed out once, in rising order.
use Rattle.std.proofs.Common.{◌≡◌, ℕ, zero, suc, ◌+◌, ◌<◌, ◌≤◌, ◌==◌, Bool, true, false, true≢false, List, [], ◌∷◌, ◌++◌, map, length, slice_index_or, Result, Ok, Err, IfOk, IsPermutation, sym, refl, ap, ◌∙◌, subst, ⊎_elim, arith, eq-eqb}
use Rattle.std.proofs.lemmas.Bool.{eqb-true}
use Rattle.std.specs.List.{All, sum_by, AllAdjacentBelow}
use Rattle.std.specs.List.Sorted.{IsNonDecreasingBy}
use Rattle.std.proofs.lemmas.List.Sums.{sum_by-cons, sum_by-append}
use Rattle.std.proofs.lemmas.List.Sorted.{IsPermutation-refl, IsPermutation-cons, IsPermutation-middle, IsPermutation-sym, IsPermutation-trans, IsPermutation-map, All-permutation, sum_by-IsPermutation}
use mathlib.Core.Option.{some, some-injective, some-ne-none}
use lib.ListN.{get_elem?}
use Rattle.solver_pool.specs.declared.resume.Resume.{Ghosts}
use Rattle.solver_pool.specs.Job.{JobView, Differ, IsAtTarget, AreRising, key_at, key_in, entry_of, IsListed}
use Rattle.solver_pool.specs.own.Rounds.{IsRound, AreServed}
use Rattle.containers.specs.declared.memory.Memory.{Memory}
use Rattle.solver_pool.specs.declared.pass_view.BookEntry.{BookEntry}
use Rattle.solver_pool.proofs.Sums.{one_if, no_term, no_sum, sum_by-map}
use Rattle.solver_pool.proofs.Ordered.{same_rising, rises_map}
use Rattle.solver_pool.proofs.Places.{at_here, at_index, at_mapped, in_range}

-- 1 where the number is h
pub is_at : ℕ → ℕ → ℕ
is_at h n = one_if (n == h)

is_at-same : (h n : ℕ) → n ≡ h → is_at h n ≡ 1
unfolding is_at
is_at-same h n e = ap one_if (eq-eqb n h e)

is_at-false : (h n : ℕ) → (n == h) ≡ false → is_at h n ≡ 0
unfolding is_at
is_at-false h n f = ap one_if f

is_at-other : (h n : ℕ) → ¬ (n ≡ h) → is_at h n ≡ 0
is_at-other h n other =
    let P : Bool → Type 0 = λ b. (n == h) ≡ b → is_at h n ≡ 0 in
    let yes : P true = λ t. absurd (other (eqb-true n h t)) in
    let nay : P false = λ f. is_at-false h n f in
    (elim (n == h) as P [ true ↦ yes | false ↦ nay ]) refl

is_at-zero : (h n : ℕ) → is_at h n ≡ 0 → ¬ (n ≡ h)
is_at-zero h n z e = let one = is_at-same h n e in omega (arith, z, one)

-- what stands in two lists stands in them with one item between
at_skip : {A : Type 0} (l : List A) (x : A) (r : List A) (k : ℕ) (a : A) → get_elem? (l ++ r) k ≡ some a → (j : ℕ) × (get_elem? (l ++ x ∷ r) j ≡ some a)
at_skip [] x r k a e = (suc k, e)
at_skip (b ∷ l) x r zero a e = (0, e)
at_skip (b ∷ l) x r (suc k) a e = let t = at_skip l x r k a e in (suc t.0, t.1)

differ_tail : {A : Type 0} (key : A → ℕ) (x : A) (l : List A) → Differ key (x ∷ l) → Differ key l
differ_tail key x l differ i j a b p q e = let t = differ (suc i) (suc j) a b p q e in omega (arith, t)

module _ {A : Type 0} (key : A → ℕ) where
  -- a list with a sum that is not 0 has such an item
  split : (h : ℕ) (l : List A) → 0 < sum_by (λ a. is_at h (key a)) l → (before : List A) × (after : List A) × (x : A) × (l ≡ before ++ x ∷ after) × (key x ≡ h)
  split h [] pos = absurd (omega (arith, pos))
  split h (a ∷ l) pos =
      let P : Bool → Type 0 = λ b. (key a == h) ≡ b → (before : List A) × (after : List A) × (x : A) × (a ∷ l ≡ before ++ x ∷ after) × (key x ≡ h) in
      let yes : P true = λ t. ([], l, a, refl, eqb-true (key a) h t) in
      let nay : P false = λ f.
      let none = is_at-false h (key a) f in
      let rest = split h l (omega (arith, pos, none, sum_by-cons (λ a. is_at h (key a)) a l)) in
      (a ∷ rest.0, rest.1, rest.2, ap (λ (m : List A). a ∷ m) rest.3, rest.4) in
      (elim (key a == h) as P [ true ↦ yes | false ↦ nay ]) refl

  inside : (x : A) (xs : List A) (z : A) (i : ℕ) → get_elem? (x ∷ xs) i ≡ some z → ¬ (key z ≡ key x) → (j : ℕ) × (get_elem? xs j ≡ some z)
  inside x xs z zero e nay = absurd (nay (ap key (sym (some-injective x z e))))
  inside x xs z (suc i) e nay = (i, e)

  none_left : (x : A) (xs : List A) → Differ key (x ∷ xs) → sum_by (λ a. is_at (key x) (key a)) xs ≡ 0
  none_left x xs differ = no_sum (λ a. is_at (key x) (key a)) xs (λ i a at. is_at-other (key x) (key a) (λ e. let t = differ (suc i) 0 a x at refl e in omega (arith, t)))

  -- items of different keys, each of which stands in the other list, with the same sums, are the other list in another order
  pub same_items : (xs ys : List A) → Differ key xs → ((k : ℕ) (y : A) → get_elem? ys k ≡ some y → (i : ℕ) × (get_elem? xs i ≡ some y)) → ((f : ℕ → ℕ) → sum_by (λ a. f (key a)) ys ≡ sum_by (λ a. f (key a)) xs) → IsPermutation xs ys
  same_items [] [] differ there sums = IsPermutation-refl []
  same_items [] (y ∷ ys) differ there sums = let t = there 0 y refl in absurd (some-ne-none y (sym t.1))
  same_items (x ∷ xs) ys differ there sums =
      let h = key x in
      let s = sums (is_at h) in
      let one = is_at-same h (key x) refl in
      let sp = split h ys (omega (arith, s, one, sum_by-cons (λ a. is_at h (key a)) x xs)) in
      let before = sp.0 in
      let after = sp.1 in
      let y = sp.2 in
      let at_y : get_elem? ys (length before) ≡ some y = subst (λ (l : List A). get_elem? l (length before) ≡ some y) (sym sp.3) (at_here before y after) in
      let in_xs = there (length before) y at_y in
      let first : in_xs.0 ≡ 0 = differ in_xs.0 0 y x in_xs.1 refl sp.4 in
      let is_x : x ≡ y = some-injective x y (subst (λ (i : ℕ). get_elem? (x ∷ xs) i ≡ some y) first in_xs.1) in
      let sums' : (f : ℕ → ℕ) → sum_by (λ a. f (key a)) (before ++ after) ≡ sum_by (λ a. f (key a)) xs = λ f.
      let F : A → ℕ = λ a. f (key a) in
      let all = ap (sum_by F) sp.3 in
      let same : F y ≡ F x = ap f sp.4 in
      let t = sums f in
      omega (arith, t, all, same, sum_by-append F before (y ∷ after), sum_by-append F before after, sum_by-cons F y after, sum_by-cons F x xs) in
      let none : sum_by (λ a. is_at h (key a)) (before ++ after) ≡ 0 = sums' (is_at h) ∙ none_left x xs differ in
      let there' : (k : ℕ) (z : A) → get_elem? (before ++ after) k ≡ some z → (i : ℕ) × (get_elem? xs i ≡ some z) = λ k z at.
      let wide = at_skip before y after k z at in
      let in_ys : get_elem? ys wide.0 ≡ some z = subst (λ (l : List A). get_elem? l wide.0 ≡ some z) (sym sp.3) wide.1 in
      let found = there wide.0 z in_ys in
      inside x xs z found.0 found.1 (is_at-zero h (key z) (no_term (λ a. is_at h (key a)) (before ++ after) k z none at)) in
      let rest = same_items xs (before ++ after) (differ_tail key x xs differ) there' sums' in
      let back : IsPermutation ys (x ∷ (before ++ after)) = subst (λ (p : List A × A). IsPermutation p.0 (p.1 ∷ (before ++ after))) (λ i. (sym sp.3 i, sym is_x i)) (IsPermutation-middle before y after) in
      IsPermutation-trans (x ∷ xs) (x ∷ (before ++ after)) ys (IsPermutation-cons x xs (before ++ after) rest) (IsPermutation-sym ys (x ∷ (before ++ after)) back)

  -- no key stands twice
  pub once : (h : ℕ) (l : List A) → Differ key l → sum_by (λ a. is_at h (key a)) l ≤ 1
  once h [] differ = omega arith
  once h (x ∷ l) differ =
      let P : Bool → Type 0 = λ b. (key x == h) ≡ b → sum_by (λ a. is_at h (key a)) (x ∷ l) ≤ 1 in
      let yes : P true = λ t.
      let e = eqb-true (key x) h t in
      let one = is_at-same h (key x) e in
      let none : sum_by (λ a. is_at h (key a)) l ≡ 0 = subst (λ (k : ℕ). sum_by (λ a. is_at k (key a)) l ≡ 0) e (none_left x l differ) in
      omega (arith, one, none, sum_by-cons (λ a. is_at h (key a)) x l) in
      let nay : P false = λ f.
      let zero' = is_at-false h (key x) f in
      let rest = once h l (differ_tail key x l differ) in
      omega (arith, zero', rest, sum_by-cons (λ a. is_at h (key a)) x l) in
      (elim (key x == h) as P [ true ↦ yes | false ↦ nay ]) refl

  one_more : (h : ℕ) (l : List A) (i : ℕ) (b : A) → get_elem? l i ≡ some b → key b ≡ h → 1 ≤ sum_by (λ a. is_at h (key a)) l
  one_more h [] i b q f = absurd (some-ne-none b (sym q))
  one_more h (x ∷ l) zero b q f = let one = is_at-same h (key x) (ap key (some-injective x b q) ∙ f) in omega (arith, one, sum_by-cons (λ a. is_at h (key a)) x l)
  one_more h (x ∷ l) (suc i) b q f = let rest = one_more h l i b q f in omega (arith, rest, sum_by-cons (λ a. is_at h (key a)) x l)

  pub twice : (h : ℕ) (l : List A) (i : ℕ) (a b : A) → get_elem? l i ≡ some a → get_elem? l (suc i) ≡ some b → key a ≡ h → key b ≡ h → 2 ≤ sum_by (λ a. is_at h (key a)) l
  twice h [] i a b p q e f = absurd (some-ne-none a (sym p))
  twice h (x ∷ l) zero a b p q e f =
      let one = is_at-same h (key x) (ap key (some-injective x a p) ∙ e) in
      let rest = one_more h l 0 b q f in
      omega (arith, one, rest, sum_by-cons (λ a. is_at h (key a)) x l)
  twice h (x ∷ l) (suc i) a b p q e f = let rest = twice h l i a b p q e f in omega (arith, rest, sum_by-cons (λ a. is_at h (key a)) x l)

module _ {R : Type 0} (g : Ghosts R) where
  differ_entries : (jobs : List (JobView R)) → Differ (key_in g) jobs → Differ key_at (map (entry_of g) jobs)
  differ_entries jobs differ i j a b p q e =
      let s = at_mapped (entry_of g) jobs i a p in
      let t = at_mapped (entry_of g) jobs j b q in
      differ i j s.0 t.0 s.1 t.1 (ap key_at s.2 ∙ e ∙ ap key_at (sym t.2))

  there_entries : (jobs done : List (JobView R)) → AreServed g jobs done → (k : ℕ) (y : BookEntry R) → get_elem? (map (entry_of g) done) k ≡ some y → (i : ℕ) × (get_elem? (map (entry_of g) jobs) i ≡ some y)
  there_entries jobs done served k y at =
      let s = at_mapped (entry_of g) done k y at in
      let j = s.0 in
      let lt = in_range done k j s.1 in
      let is : slice_index_or done k j ≡ j = some-injective (slice_index_or done k j) j (sym (at_index done k j lt) ∙ s.1) in
      let l : IsListed g (map (entry_of g) jobs) j = subst (λ (x : JobView R). IsListed g (map (entry_of g) jobs) x) is (served.each k j lt).0 in
      let e : l.1 ≡ y = (λ i. record { key = l.3.0 i; target = l.3.1 i; origin = l.3.2 i }) ∙ s.2 in
      (l.0, subst (λ (x : BookEntry R). get_elem? (map (entry_of g) jobs) l.0 ≡ some x) e l.2)

  entries : (jobs done : List (JobView R)) → Differ (key_in g) jobs → AreServed g jobs done → IsPermutation (map (entry_of g) jobs) (map (entry_of g) done)
  entries jobs done differ served = same_items key_at (map (entry_of g) jobs) (map (entry_of g) done) (differ_entries jobs differ) (there_entries jobs done served) (λ f. sum_by-map (λ (e : BookEntry R). f e.key) (entry_of g) done ∙ served.once f ∙ sym (sum_by-map (λ (e : BookEntry R). f e.key) (entry_of g) jobs))

  rises : (jobs done out : List (JobView R)) → Differ (key_in g) jobs → AreServed g jobs done → IsPermutation done out → IsNonDecreasingBy (key_in g) out
      → AllAdjacentBelow (λ a b. g.key_of a.run < g.key_of b.run) out (length out)
  rises jobs done out differ served same up k d lt =
      let a = slice_index_or out k d in
      let b = slice_index_or out (k + 1) d in
      let le = up k (k + 1) d (omega arith) lt in
      let next : k + 1 ≡ suc k = omega arith in
      let p = at_index out k d (omega (arith, lt)) in
      let q : get_elem? out (suc k) ≡ some b = subst (λ (i : ℕ). get_elem? out i ≡ some b) next (at_index out (k + 1) d lt) in
      let other : ¬ (g.key_of a.run ≡ g.key_of b.run) = λ e.
      let h = g.key_of b.run in
      let two = twice (key_in g) h out k a b p q e refl in
      let one = once (key_in g) h jobs differ in
      let s = served.once (is_at h) in
      let t = sum_by-IsPermutation (λ (j : JobView R). is_at h (g.key_of j.run)) done out same in
      omega (arith, two, one, s, t) in
      omega (arith, le, other)

  come : (jobs done : List (JobView R)) → AreServed g jobs done → All (λ (j : JobView R). g.spoilt_at j.run ≡ false) done → All (IsAtTarget g) done
  come jobs done served sound k d lt =
      let j = slice_index_or done k d in
      let ok = sound k d lt in
      ⊎_elim (λ (e : g.spoilt_at j.run ≡ true). absurd (true≢false (sym e ∙ ok))) (λ (e : IsAtTarget g j). e) (served.each k d lt).1

  pub given_back : (jobs done : List (JobView R)) (result : Result (List (JobView R)) Memory) → Differ (key_in g) jobs → AreServed g jobs done
      → IfOk result (λ out. IsPermutation done out) → IfOk result (λ out. IsNonDecreasingBy (key_in g) out) → IfOk result (λ out. All (λ (j : JobView R). g.spoilt_at j.run ≡ false) done) → IfOk result (λ out. IsRound g jobs out)
  given_back jobs done (Ok out) differ served same rising sound = record {
    once = IsPermutation-trans (map (entry_of g) jobs) (map (entry_of g) done) (map (entry_of g) out) (entries jobs done differ served) (IsPermutation-map (entry_of g) done out same);
    rising = rises jobs done out differ served same rising;
    moved = All-permutation (IsAtTarget g) done out same (come jobs done served sound);
  }
  given_back jobs done (Err e) differ served same rising sound = same

  -- jobs that came in rising order come back in the same order
  pub in_order : (jobs : List (JobView R)) (result : Result (List (JobView R)) Memory) → IfOk result (λ out. IsRound g jobs out) → IfOk result (λ out. AreRising g jobs → map (entry_of g) out ≡ map (entry_of g) jobs)
  in_order jobs (Ok out) round = λ up. same_rising key_at (map (entry_of g) jobs) (map (entry_of g) out) round.once (rises_map (entry_of g) key_at jobs up) (rises_map (entry_of g) key_at out round.rising)
  in_order jobs (Err e) round = round
