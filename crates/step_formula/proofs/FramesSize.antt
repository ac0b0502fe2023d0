use Rattle.std.proofs.Common.{arith, ◌≡◌, ◌==◌, ℕ, zero, suc, ◌+◌, ◌*◌, ◌/◌, ◌<◌, ◌≤◌, List, [], ◌∷◌, ◌++◌, map, length, Bool, true, false, refl, sym, ap, ◌∙◌, subst, cond, count_by, ◌⊎◌, inl, inr, Option, Some, None}
use Rattle.std.specs.Prelude.{sum_by}
use Rattle.std.specs.List.{list_all, cons_option, AllByRecursion}
use Rattle.clause_base.specs.Clause.{clause_of}
use Rattle.gt_core.proofs.published.Literals.{below_range}
use Rattle.std.proofs.lemmas.List.Sums.{sum_by-cons, sum_by-append}
use Rattle.gt_core.specs.Literal.{range, range_from}
use Rattle.gt_core.specs.Task.{Task, Action, Effect, effects_from}
use Rattle.gt_core.specs.Lawful.{is_conditional, are_effects, is_action, conditional_in, is_task}
use Rattle.formula_defs.specs.Layout.{Layout, width, action_at, fact_at}
use Rattle.gt_core.proofs.published.Basics.{and_split, each_at, each_from, same_test, test_same, not_true}
use Rattle.gt_core.proofs.published.Pairwise.{pairwise_joined}
use Rattle.gt_core.proofs.published.Within.{lawful}
use Rattle.formula_defs.specs.Clause.{Literal, Is, Not, code}
use Rattle.formula_defs.specs.Variables.{rows, rows_from, variable_at}
use Rattle.formula_defs.specs.Formula.{frame_clauses, effects_with, precondition_clauses, literal_over}
use Rattle.formula_defs.specs.Coded.{coded, literals_in}
use Rattle.formula_defs.proofs.published.SizeLaw.{length-range_from}
use Rattle.formula_defs.proofs.published.ClauseSize.{IsOther, AreApart, apart_size, two_size, other_variable}
use Rattle.step_formula.specs.Rows.{rows_of, made}
use Rattle.step_formula.proofs.RowLaw.{rows_parts, made_parts}
use Rattle.step_formula.specs.own.Sizes.{adds_of, effects_in, preconditions_size}
use Rattle.step_formula.proofs.Names.{act_is, now_is, later_is, over_half}
use Rattle.formula_defs.proofs.published.Sorted.{parts, effects_of_action}
use Rattle.step_formula.proofs.Variables.{IsOf, made_of, made_long, made_apart}

-- How many literals the frame clauses have, and those of preconditions.

length_parts : (xs ys : List ℕ) → length (xs ++ ys) ≡ length xs + length ys
length_parts [] ys = omega arith
length_parts (x ∷ xs) ys = let h = length_parts xs ys in omega (arith, h)

-- all effects of actions
abbrev flat : List Action → List Effect
flat [] = []
flat (x ∷ xs) = x.effects ++ flat xs

module _ (z : Layout) (l : ℕ) where
  -- the variables of effects of actions from one on, the conditional ones of which have numbers from one on
  abbrev IsFrom : (a j : ℕ) → ℕ → Type 0
  IsFrom a j m = ((a ≤ m / 2) × (m / 2 < z.actions)) ⊎ ((z.actions + j ≤ m / 2) × (m / 2 < z.actions + z.conditional))

  joined : (P : ℕ → Type 0) (xs ys : List ℕ) → AllByRecursion P xs → AllByRecursion P ys → AllByRecursion P (xs ++ ys)
  joined P [] ys p q = q
  joined P (x ∷ xs) ys p q = (p.0, joined P xs ys p.1 q)

  own_from : (a j top : ℕ) (ms : List ℕ) → a < z.actions → top ≤ z.conditional → AllByRecursion (IsOf z l a j top) ms → AllByRecursion (IsFrom a j) ms
  own_from a j top [] la le w = tt
  own_from a j top (m ∷ ms) la le w = (elim w.0 [ inl h ↦ inl (omega (arith, h), omega (arith, h, la)) | inr h ↦ let x = h.0 in let y = h.1 in inr (x, omega (arith, y, le)) ], own_from a j top ms la le w.1)

  later_from : (a b i j : ℕ) (ms : List ℕ) → a ≤ b → i ≤ j → AllByRecursion (IsFrom b j) ms → AllByRecursion (IsFrom a i) ms
  later_from a b i j [] le li w = tt
  later_from a b i j (m ∷ ms) le li w = (elim w.0 [ inl h ↦ let x = h.0 in inl (omega (arith, x, le), h.1) | inr h ↦ let x = h.0 in inr (omega (arith, x, li), h.1) ], later_from a b i j ms le li w.1)

  abbrev made_from : (a j : ℕ) → List Action → List ℕ
  made_from a j xs = made z l (rows_from j (effects_from a xs))

  made_cons : (a j : ℕ) (x : Action) (xs : List Action) → made_from a j (x ∷ xs) ≡ made z l (rows_of a j x.effects) ++ made_from (a + 1) (j + count_by is_conditional x.effects) xs
  made_cons a j x xs =
      ap (made z l) (rows_parts a j x.effects (effects_from (a + 1) xs))
      ∙ made_parts z l (rows_of a j x.effects) (rows_from (j + count_by is_conditional x.effects) (effects_from (a + 1) xs))

  all_from : (a j : ℕ) (xs : List Action) → a + length xs ≤ z.actions → j + conditional_in xs ≤ z.conditional → AllByRecursion (IsFrom a j) (made_from a j xs)
  all_from a j [] la lj = tt
  all_from a j (x ∷ xs) la lj =
      let c = sum_by-cons (λ (y : Action). count_by is_conditional y.effects) x xs in
      subst (λ (ms : List ℕ). AllByRecursion (IsFrom a j) ms) (sym (made_cons a j x xs))
      (joined (IsFrom a j) _ _ (own_from a j (j + count_by is_conditional x.effects) _ (omega (arith, la)) (omega (arith, c, lj)) (made_of z l a j x.effects))
      (later_from a (a + 1) j (j + count_by is_conditional x.effects) _ (omega arith) (omega arith) (all_from (a + 1) (j + count_by is_conditional x.effects) xs (omega (arith, la)) (omega (arith, c, lj)))))

  across : (a j top i : ℕ) (m k : ℕ) → a < z.actions → top ≤ i → IsOf z l a j top m → IsFrom (a + 1) i k → IsOther m k
  across a j top i m k la le (inl h) (inl g) = other_variable m k a (k / 2) h refl (λ q. let x = g.0 in omega (arith, x, q))
  across a j top i m k la le (inl h) (inr g) = other_variable m k a (k / 2) h refl (λ q. let x = g.0 in omega (arith, x, q, la))
  across a j top i m k la le (inr h) (inl g) = other_variable m k (m / 2) (k / 2) refl refl (λ q. let x = h.0 in let y = g.1 in omega (arith, x, y, q))
  across a j top i m k la le (inr h) (inr g) = other_variable m k (m / 2) (k / 2) refl refl (λ q. let x = h.1 in let y = g.0 in omega (arith, x, y, q, le))

  apart_from : (facts a j : ℕ) (xs : List Action) → a + length xs ≤ z.actions → j + conditional_in xs ≤ z.conditional → list_all (is_action facts) xs ≡ true → AreApart (made_from a j xs)
  apart_from facts a j [] la lj t = tt
  apart_from facts a j (x ∷ xs) la lj t =
      let c = sum_by-cons (λ (y : Action). count_by is_conditional y.effects) x xs in
      let p = and_split (is_action facts x) _ t in
      let i = j + count_by is_conditional x.effects in
      let lt : a < z.actions = omega (arith, la) in
      let rest_la : a + 1 + length xs ≤ z.actions = omega (arith, la) in
      let rest_lj : i + conditional_in xs ≤ z.conditional = omega (arith, c, lj) in
      let own = made_of z l a j x.effects in
      let later = all_from (a + 1) i xs rest_la rest_lj in
      subst (λ (ms : List ℕ). AreApart ms) (sym (made_cons a j x xs))
      (pairwise_joined IsOther (made z l (rows_of a j x.effects)) (made_from (a + 1) i xs)
      (made_apart z l facts a j None x.effects lt (effects_of_action facts x p.0))
      (apart_from facts (a + 1) i xs rest_la rest_lj p.1)
      (λ m k im ik. across a j i i m k lt (omega arith) (each_at (IsOf z l a j i) (made z l (rows_of a j x.effects)) m own im) (each_at (IsFrom (a + 1) i) (made_from (a + 1) i xs) k later ik)))

  long_from : (a j : ℕ) (xs : List Action) → length (made_from a j xs) ≡ adds_of (flat xs) l
  long_from a j [] = refl
  long_from a j (x ∷ xs) =
      let m = ap length (made_cons a j x xs) ∙ length_parts (made z l (rows_of a j x.effects)) (made_from (a + 1) (j + count_by is_conditional x.effects) xs) in
      let o = made_long z l a j x.effects in
      let r = long_from (a + 1) (j + count_by is_conditional x.effects) xs in
      let s = sum_by-append (λ (f : Effect). cond (f.literal == l) 1 0) x.effects (flat xs) in
      omega (arith, m, o, r, s)

  -- facts are other variables than effects
  fact_away : (m u j : ℕ) (ms : List ℕ) → m / 2 ≡ u → width z ≤ u → AllByRecursion (IsFrom 0 j) ms → AllByRecursion (IsOther m) ms
  fact_away m u j [] e le w = tt
  fact_away m u j (k ∷ ms) e le w = (other_variable m k u (k / 2) e refl (elim w.0 [ inl h ↦ (λ q. let x = h.1 in omega (arith, x, q, le)) | inr h ↦ (λ q. let x = h.1 in omega (arith, x, q, le)) ]), fact_away m u j ms e le w.1)

-- Each effect stands in one frame clause.

-- the adds and deletes of a fact
abbrev both : List Effect → ℕ → ℕ
both es f = adds_of es (2 * f + 1) + adds_of es (2 * f)

one_cases : (k f : ℕ) → cond (k == 2 * f + 1) 1 0 + cond (k == 2 * f) 1 0 ≡ cond (k / 2 == f) 1 0
one_cases k f = by (k == 2 * f + 1) (k == 2 * f) (k / 2 == f) refl refl refl
  where
    by : (x y w : Bool) → (k == 2 * f + 1) ≡ x → (k == 2 * f) ≡ y → (k / 2 == f) ≡ w → cond x 1 0 + cond y 1 0 ≡ cond w 1 0
    by true true w e g h = let a = test_same _ _ e in let b = test_same _ _ g in absurd (omega (arith, a, b))
    by true false true e g h = refl
    by true false false e g h = let a = test_same _ _ e in let q : k / 2 ≡ f = omega (arith, a) in let t = same_test _ _ q in absurd (let u : true ≡ false = sym t ∙ h in cc)
    by false true true e g h = refl
    by false true false e g h = let a = test_same _ _ g in let q : k / 2 ≡ f = omega (arith, a) in let t = same_test _ _ q in absurd (let u : true ≡ false = sym t ∙ h in cc)
    by false false true e g h =
        let q = test_same _ _ h in
        let n1 : k ≡ 2 * f + 1 → ⊥ = λ r. let t = same_test _ _ r in let u : true ≡ false = sym t ∙ e in cc in
        let n2 : k ≡ 2 * f → ⊥ = λ r. let t = same_test _ _ r in let u : true ≡ false = sym t ∙ g in cc in
        absurd (omega (arith, q, n1, n2))
    by false false false e g h = refl

miss : (k first n : ℕ) → k < first → sum_by (λ f. cond (k == f) 1 0) (range_from first n) ≡ 0
miss k first zero lt = refl
miss k first (suc n) lt =
    let s = sum_by-cons (λ f. cond (k == f) 1 0) first (range_from (first + 1) n) in
    let no : (k == first) ≡ false = not_true _ (λ t. let q = test_same k first t in omega (arith, q, lt)) in
    let w = ap {B = ℕ} (λ (b : Bool). cond b 1 0) no in
    let r = miss k (first + 1) n (omega (arith, lt)) in
    omega (arith, s, w, r)

hit : (k first n : ℕ) → first ≤ k → k < first + n → sum_by (λ f. cond (k == f) 1 0) (range_from first n) ≡ 1
hit k first zero le lt = absurd (omega (arith, le, lt))
hit k first (suc n) le lt = by (k == first) refl (λ l. hit k (first + 1) n l (omega (arith, lt)))
  where
    by : (b : Bool) → (k == first) ≡ b → (first + 1 ≤ k → sum_by (λ f. cond (k == f) 1 0) (range_from (first + 1) n) ≡ 1) → sum_by (λ f. cond (k == f) 1 0) (range_from first (suc n)) ≡ 1
    by true t on =
        let s = sum_by-cons (λ f. cond (k == f) 1 0) first (range_from (first + 1) n) in
        let w = ap {B = ℕ} (λ (b : Bool). cond b 1 0) t in
        let q = test_same k first t in
        let r = miss k (first + 1) n (omega (arith, q)) in
        omega (arith, s, w, r)
    by false t on =
        let s = sum_by-cons (λ f. cond (k == f) 1 0) first (range_from (first + 1) n) in
        let w = ap {B = ℕ} (λ (b : Bool). cond b 1 0) t in
        let ne : k ≡ first → ⊥ = λ q. let u : true ≡ false = sym (same_test k first q) ∙ t in cc in
        let r = on (omega (arith, le, ne)) in
        omega (arith, s, w, r)

sum_same : (g h : ℕ → ℕ) (xs : List ℕ) → ((x : ℕ) → g x ≡ h x) → sum_by g xs ≡ sum_by h xs
sum_same g h [] e = refl
sum_same g h (x ∷ xs) e = let a = sum_by-cons g x xs in let b = sum_by-cons h x xs in let c = e x in let r = sum_same g h xs e in omega (arith, a, b, c, r)

sum_two : (g h : ℕ → ℕ) (xs : List ℕ) → sum_by (λ x. g x + h x) xs ≡ sum_by g xs + sum_by h xs
sum_two g h [] = refl
sum_two g h (x ∷ xs) = let a = sum_by-cons g x xs in let b = sum_by-cons h x xs in let c = sum_by-cons (λ x. g x + h x) x xs in let r = sum_two g h xs in omega (arith, a, b, c, r)

sum_none : (xs : List ℕ) → sum_by (λ f. both [] f) xs ≡ 0
sum_none [] = refl
sum_none (x ∷ xs) = let c = sum_by-cons (λ f. both [] f) x xs in let r = sum_none xs in omega (arith, c, r)

-- over all facts, each effect is counted once
each_once : (facts : ℕ) (es : List Effect) → AllByRecursion (λ e. e.literal < 2 * facts) es → sum_by (both es) (range facts) ≡ length es
each_once facts [] w = sum_none (range facts)
each_once facts (e ∷ es) w =
    let here : (f : ℕ) → both (e ∷ es) f ≡ cond (e.literal / 2 == f) 1 0 + both es f = λ f.
    let a = sum_by-cons (λ (d : Effect). cond (d.literal == 2 * f + 1) 1 0) e es in
    let b = sum_by-cons (λ (d : Effect). cond (d.literal == 2 * f) 1 0) e es in
    let c = one_cases e.literal f in
    omega (arith, a, b, c) in
    let one = sum_same (both (e ∷ es)) (λ f. cond (e.literal / 2 == f) 1 0 + both es f) (range facts) here in
    let two = sum_two (λ f. cond (e.literal / 2 == f) 1 0) (both es) (range facts) in
    let lt = w.0 in
    let h = hit (e.literal / 2) 0 facts (omega arith) (omega (arith, lt)) in
    let r = each_once facts es w.1 in
    omega (arith, one, two, h, r)

flat_long : (xs : List Action) → length (flat xs) ≡ effects_in xs
flat_long [] = refl
flat_long (x ∷ xs) = let h = flat_long xs in let s = sum_by-cons (λ (y : Action). length y.effects) x xs in let a = effects_parts x.effects (flat xs) in omega (arith, h, s, a)
  where
    effects_parts : (xs ys : List Effect) → length (xs ++ ys) ≡ length xs + length ys
    effects_parts [] ys = omega arith
    effects_parts (x ∷ xs) ys = let h = effects_parts xs ys in omega (arith, h)

below_of : (facts : ℕ) (last : Option Effect) (es : List Effect) → are_effects facts last es ≡ true → AllByRecursion (λ e. e.literal < 2 * facts) es
below_of facts last [] t = tt
below_of facts last (e ∷ es) t = let p = parts facts last e es t in (p.below, below_of facts (Some e) es p.rest)

flat_below : (facts : ℕ) (xs : List Action) → list_all (is_action facts) xs ≡ true → AllByRecursion (λ e. e.literal < 2 * facts) (flat xs)
flat_below facts [] t = tt
flat_below facts (x ∷ xs) t =
    let p = and_split (is_action facts x) _ t in
    joined_effects (λ e. e.literal < 2 * facts) x.effects (flat xs) (below_of facts None x.effects (effects_of_action facts x p.0)) (flat_below facts xs p.1)
  where
    joined_effects : (P : Effect → Type 0) (xs ys : List Effect) → AllByRecursion P xs → AllByRecursion P ys → AllByRecursion P (xs ++ ys)
    joined_effects P [] ys p q = q
    joined_effects P (x ∷ xs) ys p q = (p.0, joined_effects P xs ys p.1 q)

module _ (z : Layout) (h1 : z.horizon ≡ 1) (task : Task) (t : is_task task ≡ true) (actions : z.actions ≡ length task.actions) (conditional : z.conditional ≡ conditional_in task.actions) where
  frame_one : (l m k u v : ℕ) (rest : List (List Literal)) (c : List Literal) → map code c ≡ m ∷ k ∷ made z l (rows task) → m / 2 ≡ u → k / 2 ≡ v → (u ≡ v → ⊥) → width z ≤ u → width z ≤ v → literals_in (coded (c ∷ rest)) ≡ 2 + adds_of (flat task.actions) l + literals_in (coded rest)
  frame_one l m k u v rest c e mu kv ne lu lv =
      let all = all_from z l 0 0 task.actions (omega (arith, actions)) (omega (arith, conditional)) in
      let far = apart_from z l task.facts 0 0 task.actions (omega (arith, actions)) (omega (arith, conditional)) (lawful task t).each in
      let long = long_from z l 0 0 task.actions in
      let r = apart_size (m ∷ k ∷ made z l (rows task)) (coded rest) ((other_variable m k u v mu kv ne, fact_away z l m u 0 _ mu lu all), (fact_away z l k v 0 _ kv lv all, far)) in
      let s = ap (λ (ls : List ℕ). literals_in (cons_option (clause_of ls) (coded rest))) e in
      omega (arith, r, s, long)

  abbrev stays_true : ℕ → List Literal
  stays_true f = Not (fact_at z 0 f) ∷ Is (fact_at z 1 f) ∷ effects_with (variable_at z 0) (λ e. e.literal == 2 * f + 1) (rows task)

  abbrev stays_false : ℕ → List Literal
  stays_false f = Is (fact_at z 0 f) ∷ Not (fact_at z 1 f) ∷ effects_with (variable_at z 0) (λ e. e.literal == 2 * f) (rows task)

  frames_of : (fs : List ℕ) → AllByRecursion (λ f. f < task.facts) fs → z.facts ≡ task.facts → literals_in (coded (frame_clauses (fact_at z 0) (fact_at z 1) (variable_at z 0) (rows task) fs)) ≡ 4 * length fs + sum_by (both (flat task.actions)) fs
  frames_of [] w e = refl
  frames_of (f ∷ fs) w e =
      let n = now_is z f h1 in
      let k = later_is z f h1 in
      let lt = w.0 in
      let ne : width z + f ≡ width z + z.facts + f → ⊥ = λ q. omega (arith, q, e, lt) in
      let rest = frame_clauses (fact_at z 0) (fact_at z 1) (variable_at z 0) (rows task) fs in
      let a = frame_one (2 * f + 1) (2 * fact_at z 0 f + 1) (2 * fact_at z 1 f) (width z + f) (width z + z.facts + f) (stays_false f ∷ rest) (stays_true f) refl (omega (arith, n)) (omega (arith, k)) ne (omega arith) (omega arith) in
      let b = frame_one (2 * f) (2 * fact_at z 0 f) (2 * fact_at z 1 f + 1) (width z + f) (width z + z.facts + f) rest (stays_false f) refl (omega (arith, n)) (omega (arith, k)) ne (omega arith) (omega arith) in
      let r = frames_of fs w.1 e in
      let s = sum_by-cons (both (flat task.actions)) f fs in
      omega (arith, a, b, r, s)

  pub frames_literals : z.facts ≡ task.facts → literals_in (coded (frame_clauses (fact_at z 0) (fact_at z 1) (variable_at z 0) (rows task) (range task.facts))) ≡ 4 * task.facts + effects_in task.actions
  frames_literals e =
      let f = frames_of (range task.facts) (each_from (λ f. f < task.facts) (range task.facts) (λ f i. below_range task.facts f i)) e in
      let n = length-range_from 0 task.facts in
      let o = each_once task.facts (flat task.actions) (flat_below task.facts task.actions (lawful task t).each) in
      let l = flat_long task.actions in
      omega (arith, f, n, o, l)

  precondition_of : (a : ℕ) (ls : List ℕ) (rest : List (List Literal)) → a < z.actions → literals_in (coded (map (λ l. Not (action_at z 0 a) ∷ literal_over (fact_at z 0) l ∷ []) ls ++ rest)) ≡ 2 * length ls + literals_in (coded rest)
  precondition_of a [] rest lt = omega arith
  precondition_of a (l ∷ ls) rest lt =
      let k = act_is z a in
      let two = two_size (code (Not (action_at z 0 a))) (code (literal_over (fact_at z 0) l)) a (width z + l / 2) (coded (map (λ l. Not (action_at z 0 a) ∷ literal_over (fact_at z 0) l ∷ []) ls ++ rest)) (omega (arith, k)) (over_half (fact_at z 0) l ∙ now_is z (l / 2) h1) (λ q. omega (arith, q, lt)) in
      let h = precondition_of a ls rest lt in
      omega (arith, two, h)

  pub preconditions_literals : (a : ℕ) (xs : List Action) → a + length xs ≤ z.actions → literals_in (coded (precondition_clauses (action_at z 0) (fact_at z 0) a xs)) ≡ preconditions_size xs
  preconditions_literals a [] le = refl
  preconditions_literals a (x ∷ xs) le =
      let h = precondition_of a x.precondition (precondition_clauses (action_at z 0) (fact_at z 0) (a + 1) xs) (omega (arith, le)) in
      let r = preconditions_literals (a + 1) xs (omega (arith, le)) in
      let s = sum_by-cons (λ (y : Action). 2 * length y.precondition) x xs in
      omega (arith, h, r, s)
