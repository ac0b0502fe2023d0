use Rattle.std.proofs.Common.{arith, ◌≡◌, ◌==◌, ℕ, zero, suc, ◌+◌, ◌-◌, ◌*◌, ◌<◌, ◌≤◌, List, [], ◌∷◌, ◌++◌, length, take, drop, get_or, Bool, true, false, not, ◌&&◌, ◌||◌, refl, sym, ap, ◌∙◌, subst, cond, count_by, nat_lt, nat_le, Option, Some, None}
use Rattle.std.specs.List.{AllByRecursion}
use Rattle.std.proofs.lemmas.Bool.Decides.{nat_tests}
use Rattle.std.proofs.lemmas.List.{take_more}
use Rattle.std.proofs.lemmas.List.Sums.{sum_by-cons}
use Rattle.gt_core.specs.Task.{Effect, Action}
use Rattle.gt_core.specs.Lawful.{are_rising, is_literal_set, list_less, effect_less, follows, are_effects, is_action, is_conditional}
use Rattle.gt_core.proofs.published.Basics.{and_split, test_same}

-- What it is for effects to be sorted, and how many there are.

-- one effect of a sorted list, and those after it
pub record Parts (facts : ℕ) (last : Option Effect) (e : Effect) (es : List Effect) : Type 0 where
  pub follows : follows last e ≡ true
  pub below : e.literal < 2 * facts
  pub condition : is_literal_set facts e.condition ≡ true
  pub rest : are_effects facts (Some e) es ≡ true

pub parts : (facts : ℕ) (last : Option Effect) (e : Effect) (es : List Effect) → are_effects facts last (e ∷ es) ≡ true → Parts facts last e es
parts facts last e es h =
    let x = and_split (follows last e) _ h in
    let y = and_split (nat_lt e.literal (2 * facts)) _ x.1 in
    let z = and_split (is_literal_set facts e.condition) _ y.1 in
    record { follows = x.0; below = (let t : nat_lt e.literal (2 * facts) ≡ true = y.0 in grind (arith, nat_tests)); condition = z.0; rest = z.1 }

-- a greater effect has a greater literal, or the same and a condition
pub less_is : (d e : Effect) → effect_less d e ≡ true → (d.literal ≤ e.literal) × (d.literal ≡ e.literal → is_conditional e ≡ true)
less_is d e h = by (nat_lt d.literal e.literal) refl h
  where
    less_some : (xs ys : List ℕ) → list_less xs ys ≡ true → not (length ys == 0) ≡ true
    less_some [] [] t = absurd (let f : false ≡ true = t in cc)
    less_some (x ∷ xs) [] t = absurd (let f : false ≡ true = t in cc)
    less_some xs (y ∷ ys) t = some (length ys)
      where
        some : (n : ℕ) → not (suc n == 0) ≡ true
        some n = grind (arith, nat_tests)

    by : (b : Bool) → nat_lt d.literal e.literal ≡ b → (b || ((d.literal == e.literal) && list_less d.condition e.condition)) ≡ true → (d.literal ≤ e.literal) × (d.literal ≡ e.literal → is_conditional e ≡ true)
    by true t g = let lt : d.literal < e.literal = grind (arith, nat_tests) in (omega (arith, lt), λ q. absurd (omega (arith, lt, q)))
    by false t g =
        let x = and_split (d.literal == e.literal) (list_less d.condition e.condition) g in
        let s = test_same d.literal e.literal x.0 in
        (omega (arith, s), λ q. less_some d.condition e.condition x.1)

-- literals rise along effects
pub at_least : (facts : ℕ) (d : Effect) (es : List Effect) → are_effects facts (Some d) es ≡ true → AllByRecursion (λ e. d.literal ≤ e.literal) es
at_least facts d [] h = tt
at_least facts d (e ∷ es) h =
    let p = parts facts (Some d) e es h in
    let l = (less_is d e p.follows).0 in
    (l, weaker e.literal d.literal es l (at_least facts e es p.rest))
  where
    weaker : (m n : ℕ) (es : List Effect) → n ≤ m → AllByRecursion (λ e. m ≤ e.literal) es → AllByRecursion (λ e. n ≤ e.literal) es
    weaker m n [] le w = tt
    weaker m n (x ∷ xs) le w = (let h = w.0 in omega (arith, h, le), weaker m n xs le w.1)

-- an effect after one with the same literal has a condition
pub conditional_after : (facts l : ℕ) (d : Effect) (es : List Effect) → l ≤ d.literal → are_effects facts (Some d) es ≡ true → AllByRecursion (λ e. e.literal ≡ l → is_conditional e ≡ true) es
conditional_after facts l d [] le h = tt
conditional_after facts l d (e ∷ es) le h =
    let p = parts facts (Some d) e es h in
    let x = less_is d e p.follows in
    let le2 = x.0 in
    (λ q. x.1 (omega (arith, le, le2, q)), conditional_after facts l e es (omega (arith, le, le2)) p.rest)

-- what stands before an effect has no greater literal
pub before_is : (facts : ℕ) (last : Option Effect) (es : List Effect) (i : ℕ) (d : Effect) → are_effects facts last es ≡ true → i < length es → AllByRecursion (λ e. e.literal ≤ (get_or es i d).literal) (take i es)
before_is facts last [] i d h lt = absurd (omega (arith, lt))
before_is facts last (e ∷ es) zero d h lt = tt
before_is facts last (e ∷ es) (suc i) d h lt =
    let p = parts facts last e es h in
    (at es i (at_least facts e es p.rest) (omega (arith, lt)), before_is facts (Some e) es i d p.rest (omega (arith, lt)))
  where
    at : (xs : List Effect) (j : ℕ) → AllByRecursion (λ x. e.literal ≤ x.literal) xs → j < length xs → e.literal ≤ (get_or xs j d).literal
    at [] j w l = absurd (omega (arith, l))
    at (x ∷ xs) zero w l = w.0
    at (x ∷ xs) (suc j) w l = at xs j w.1 (omega (arith, l))

-- the effects from one on are sorted, after one that none of them comes before
pub rest_sorted : (facts : ℕ) (last : Option Effect) (es : List Effect) (i : ℕ) (d : Effect) → are_effects facts last es ≡ true → i < length es → are_effects facts (Some (get_or es i d)) (drop (i + 1) es) ≡ true
rest_sorted facts last [] i d h lt = absurd (omega (arith, lt))
rest_sorted facts last (e ∷ es) zero d h lt = (parts facts last e es h).rest
rest_sorted facts last (e ∷ es) (suc i) d h lt =
    let n : suc (i + 1) ≡ suc i + 1 = omega arith in
    subst (λ (k : ℕ). are_effects facts (Some (get_or es i d)) (drop k (e ∷ es)) ≡ true) n
    (rest_sorted facts (Some e) es i d (parts facts last e es h).rest (omega (arith, lt)))

-- the condition of an effect
pub condition_at : (facts : ℕ) (last : Option Effect) (es : List Effect) (i : ℕ) (d : Effect) → are_effects facts last es ≡ true → i < length es → is_literal_set facts (get_or es i d).condition ≡ true
condition_at facts last [] i d h lt = absurd (omega (arith, lt))
condition_at facts last (e ∷ es) zero d h lt = (parts facts last e es h).condition
condition_at facts last (e ∷ es) (suc i) d h lt = condition_at facts (Some e) es i d (parts facts last e es h).rest (omega (arith, lt))

-- a set of literals is no longer than there are literals
rising_few : (top low : ℕ) (ls : List ℕ) → are_rising top low ls ≡ true → length ls ≤ top - low
rising_few top low [] h = omega arith
rising_few top low (l ∷ ls) h =
    let x = and_split (nat_le low l) _ h in
    let y = and_split (nat_lt l top) _ x.1 in
    let a : low ≤ l = let t : nat_le low l ≡ true = x.0 in grind (arith, nat_tests) in
    let b : l < top = let t : nat_lt l top ≡ true = y.0 in grind (arith, nat_tests) in
    let r = rising_few top (l + 1) ls y.1 in
    omega (arith, a, b, r)

pub set_few : (facts : ℕ) (ls : List ℕ) → is_literal_set facts ls ≡ true → length ls ≤ 2 * facts
set_few facts ls h = let r = rising_few (2 * facts) 0 ls h in omega (arith, r)

-- an action has at most one effect without condition for each literal
after_few : (facts : ℕ) (d : Effect) (es : List Effect) → d.literal < 2 * facts → are_effects facts (Some d) es ≡ true → length es + d.literal + 1 ≤ 2 * facts + count_by is_conditional es
after_few facts d [] lt h = omega (arith, lt)
after_few facts d (e ∷ es) lt h =
    let p = parts facts (Some d) e es h in
    by (is_conditional e) refl (less_is d e p.follows) (after_few facts e es p.below p.rest)
  where
    by : (b : Bool) → is_conditional e ≡ b → (d.literal ≤ e.literal) × (d.literal ≡ e.literal → is_conditional e ≡ true) → length es + e.literal + 1 ≤ 2 * facts + count_by is_conditional es → length (e ∷ es) + d.literal + 1 ≤ 2 * facts + count_by is_conditional (e ∷ es)
    by true t x r =
        let l = x.0 in
        let s = sum_by-cons (λ f. cond (is_conditional f) 1 0) e es in
        let w = ap {B = ℕ} (λ (b : Bool). cond b 1 0) t in
        omega (arith, r, l, s, w)
    by false t x r =
        let ne : d.literal ≡ e.literal → ⊥ = λ q. let c = x.1 q in cc in
        let l = x.0 in
        let s = sum_by-cons (λ f. cond (is_conditional f) 1 0) e es in
        let w = ap {B = ℕ} (λ (b : Bool). cond b 1 0) t in
        omega (arith, r, l, s, w, ne)

pub effects_few : (facts : ℕ) (es : List Effect) → are_effects facts None es ≡ true → length es ≤ 2 * facts + count_by is_conditional es
effects_few facts [] h = omega arith
effects_few facts (e ∷ es) h = by (is_conditional e) refl
  where
    p : Parts facts None e es
    p = parts facts None e es h

    by : (b : Bool) → is_conditional e ≡ b → length (e ∷ es) ≤ 2 * facts + count_by is_conditional (e ∷ es)
    by true t =
        let r = after_few facts e es p.below p.rest in
        let s = sum_by-cons (λ f. cond (is_conditional f) 1 0) e es in
        let w = ap {B = ℕ} (λ (b : Bool). cond b 1 0) t in
        omega (arith, r, s, w)
    by false t =
        let r = after_few facts e es p.below p.rest in
        let s = sum_by-cons (λ f. cond (is_conditional f) 1 0) e es in
        let w = ap {B = ℕ} (λ (b : Bool). cond b 1 0) t in
        omega (arith, r, s, w)

pub effects_of_action : (facts : ℕ) (x : Action) → is_action facts x ≡ true → are_effects facts None x.effects ≡ true
effects_of_action facts x h = (and_split (is_literal_set facts x.precondition) _ h).1

-- what stands before a place
pub sorted_before : (facts : ℕ) (es : List Effect) (i : ℕ) (d e : Effect) → are_effects facts None es ≡ true → i < length es → e ≡ get_or es i d → AllByRecursion (λ x. x.literal ≤ e.literal) (take i es)
sorted_before facts es i d e s lt is = subst (λ (y : Effect). AllByRecursion (λ x. x.literal ≤ y.literal) (take i es)) (sym is) (before_is facts None es i d s lt)

pub taken_more : (es : List Effect) (i : ℕ) (d e : Effect) → i < length es → e ≡ get_or es i d → take (i + 1) es ≡ take i es ++ e ∷ []
taken_more es i d e lt is = take_more es i d lt ∙ ap (λ (x : Effect). take i es ++ x ∷ []) (sym is)
