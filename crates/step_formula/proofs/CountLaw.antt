use Rattle.std.proofs.Common.{arith, ◌≡◌, ◌==◌, ℕ, ◌+◌, ◌-◌, ◌%◌, ◌<◌, ◌≤◌, List, [], ◌∷◌, ◌++◌, Bool, true, false, not, ◌&&◌, ◌||◌, refl, sym, ap, ◌∙◌, if◌then◌else◌, cond}
use Rattle.std.specs.List.{AllByRecursion}
use Rattle.std.proofs.lemmas.List.Sums.{sum_by-append, sum_by-cons}
use Rattle.std.proofs.lemmas.List.Folds.{list_any-append}
use Rattle.gt_core.specs.Task.{Effect}
use Rattle.gt_core.specs.Lawful.{is_conditional}
use Rattle.gt_core.proofs.published.Basics.{apart, same_test, test_same}
use Rattle.step_formula.specs.declared.counted_adds.Adds.{Adds}
use Rattle.step_formula.specs.own.Sizes.{adds_of, adds_surely}
use Rattle.step_formula.specs.own.Adds.{IsCount}
use Rattle.std.proofs.lemmas.Bool.{ne_eqb}
use Rattle.std.proofs.Math.Bool.{or-false}
use Rattle.step_formula.proofs.AddersLaw.{parted}

-- What is counted of the effects before one, after one more.

counted : (l : ℕ) (xs : List Effect) (e : Effect) → adds_of (xs ++ e ∷ []) l ≡ adds_of xs l + cond (e.literal == l) 1 0
counted l xs e =
    let a = sum_by-append (λ (f : Effect). cond (f.literal == l) 1 0) xs (e ∷ []) in
    let b = sum_by-cons (λ (f : Effect). cond (f.literal == l) 1 0) e [] in
    omega (arith, a, b)

surely : (l : ℕ) (xs : List Effect) (e : Effect) → adds_surely (xs ++ e ∷ []) l ≡ (adds_surely xs l || ((e.literal == l) && not (is_conditional e)))
surely l xs e = list_any-append (λ (d : Effect). (d.literal == l) && not (is_conditional d)) xs (e ∷ []) ∙ ap (λ (b : Bool). adds_surely xs l || b) (or-false ((e.literal == l) && not (is_conditional e)))

-- of a literal that none of them has, there is none
pub none_there : (P : Effect → Type 0) (l : ℕ) → ((d : Effect) → P d → d.literal ≡ l → ⊥) → (xs : List Effect) → AllByRecursion P xs → (adds_of xs l ≡ 0) × (adds_surely xs l ≡ false)
none_there P l apart [] w = (refl, refl)
none_there P l apart (x ∷ xs) w = by (x.literal == l) refl (none_there P l apart xs w.1)
  where
    by : (b : Bool) → (x.literal == l) ≡ b → (adds_of xs l ≡ 0) × (adds_surely xs l ≡ false) → (adds_of (x ∷ xs) l ≡ 0) × (((b && not (is_conditional x)) || adds_surely xs l) ≡ false)
    by true t r = absurd (apart x w.0 (test_same x.literal l t))
    by false t r = (let s = sum_by-cons (λ (f : Effect). cond (f.literal == l) 1 0) x xs in let v = ap {B = ℕ} (λ (b : Bool). cond b 1 0) t in let k = r.0 in omega (arith, s, v, k), r.1)

none_above : (l : ℕ) (xs : List Effect) → AllByRecursion (λ d. d.literal < l) xs → (adds_of xs l ≡ 0) × (adds_surely xs l ≡ false)
none_above l xs w = none_there (λ d. d.literal < l) l (λ d h q. omega (arith, h, q)) xs w

below : (m l : ℕ) (xs : List Effect) → m < l → AllByRecursion (λ d. d.literal ≤ m) xs → AllByRecursion (λ d. d.literal < l) xs
below m l [] lt w = tt
below m l (x ∷ xs) lt w = (let k = w.0 in omega (arith, k, lt), below m l xs lt w.1)

module _ (old new : Adds) (e : Effect) (one : ℕ) (adds sure : Bool) (floor : new.lit ≡ e.literal - e.literal % 2) (is_add : adds ≡ (e.literal == new.lit)) (is_sure : sure ≡ (adds && not (is_conditional e))) (is_one : one ≡ cond adds 1 0) (before : List Effect) (sorted : AllByRecursion (λ d. d.literal ≤ e.literal) before) (is : IsCount old before) where
  -- of the literal that is counted now
  here : (l : ℕ) → new.lit ≡ l → (cond (e.literal == l) 1 0 ≡ one) × (((e.literal == l) && not (is_conditional e)) ≡ sure)
  here l q =
      let a : (e.literal == l) ≡ adds = ap (λ (k : ℕ). e.literal == k) (sym q) ∙ sym is_add in
      (ap {B = ℕ} (λ (b : Bool). cond b 1 0) a ∙ sym is_one, ap (λ (b : Bool). b && not (is_conditional e)) a ∙ sym is_sure)

  -- of another even literal
  elsewhere : (l : ℕ) → l % 2 ≡ 0 → (new.lit ≡ l → ⊥) → (e.literal == l) ≡ false
  elsewhere l even ne = ne_eqb e.literal l (λ q. ne (omega (arith, floor, q, even)))

  abbrev Up : ℕ → Type 0
  Up l = AllByRecursion (λ d. d.literal ≤ l + 1) (before ++ e ∷ [])

  -- the effects before are of lower literals, where this one is of another than l, which is not passed
  passed : (l : ℕ) → l % 2 ≡ 0 → (new.lit ≡ l → ⊥) → Up l → AllByRecursion (λ d. d.literal < l) before
  passed l even ne up =
      let k = (parted (λ d. d.literal ≤ l + 1) before e up).1 in
      below e.literal l before (omega (arith, k, ne, floor, even)) sorted

  count_by_lit : (l : ℕ) → l % 2 ≡ 0 → Up l → (b : Bool) → (new.lit == l) ≡ b → (count : ℕ) → (new.lit ≡ l → adds_of before l + one ≡ count) → adds_of (before ++ e ∷ []) l ≡ (if b then count else 0)
  count_by_lit l even up true t count on =
      let q = test_same new.lit l t in
      let h = (here l q).0 in
      let c = counted l before e in
      let o = on q in
      omega (arith, h, c, o)
  count_by_lit l even up false t count on =
      let ne : new.lit ≡ l → ⊥ = λ q. apart (new.lit == l) (same_test new.lit l q) t in
      let n = (none_above l before (passed l even ne up)).0 in
      let c = counted l before e in
      let v = ap {B = ℕ} (λ (b : Bool). cond b 1 0) (elsewhere l even ne) in
      omega (arith, n, c, v)

  sure_by_lit : (l : ℕ) → l % 2 ≡ 0 → Up l → (b : Bool) → (new.lit == l) ≡ b → (some : Bool) → (new.lit ≡ l → (adds_surely before l || sure) ≡ some) → adds_surely (before ++ e ∷ []) l ≡ (b && some)
  sure_by_lit l even up true t some on =
      let q = test_same new.lit l t in
      surely l before e ∙ ap (λ (b : Bool). adds_surely before l || b) (here l q).1 ∙ on q
  sure_by_lit l even up false t some on =
      let ne : new.lit ≡ l → ⊥ = λ q. apart (new.lit == l) (same_test new.lit l q) t in
      surely l before e ∙ ap (λ (b : Bool). b || ((e.literal == l) && not (is_conditional e))) (none_above l before (passed l even ne up)).1 ∙ ap (λ (b : Bool). b && not (is_conditional e)) (elsewhere l even ne)

  old_up : (l : ℕ) → Up l → AllByRecursion (λ d. d.literal ≤ l + 1) before
  old_up l up = (parted (λ d. d.literal ≤ l + 1) before e up).0

  -- another effect of the fact
  pub counted_again : old.lit ≡ new.lit → new.count ≡ old.count + one → new.sure ≡ (old.sure || sure) → IsCount new (before ++ e ∷ [])
  counted_again s c u = record {
    count = λ l even up. count_by_lit l even up (new.lit == l) refl new.count (λ q.
        let k = is.count l even (old_up l up) in
        let t = ap {B = ℕ} (λ (b : Bool). if b then old.count else 0) (same_test old.lit l (s ∙ q)) in
        omega (arith, k, t, c));
    sure = λ l even up. sure_by_lit l even up (new.lit == l) refl new.sure (λ q.
        ap (λ (b : Bool). b || sure) (is.sure l even (old_up l up) ∙ ap (λ (b : Bool). b && old.sure) (same_test old.lit l (s ∙ q))) ∙ sym u);
  }

  -- the first one of a fact
  pub counted_first : (old.lit ≡ new.lit → ⊥) → new.count ≡ one → new.sure ≡ sure → IsCount new (before ++ e ∷ [])
  counted_first s c u = record {
    count = λ l even up. count_by_lit l even up (new.lit == l) refl new.count (λ q.
        let k = is.count l even (old_up l up) in
        let t = ap {B = ℕ} (λ (b : Bool). if b then old.count else 0) (ne_eqb old.lit l (λ r. s (r ∙ sym q))) in
        omega (arith, k, t, c));
    sure = λ l even up. sure_by_lit l even up (new.lit == l) refl new.sure (λ q.
        ap (λ (b : Bool). b || sure) (is.sure l even (old_up l up) ∙ ap (λ (b : Bool). b && old.sure) (ne_eqb old.lit l (λ r. s (r ∙ sym q)))) ∙ sym u);
  }
