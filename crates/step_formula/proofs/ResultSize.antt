use Rattle.std.proofs.Common.{arith, ◌≡◌, ◌==◌, ℕ, ◌+◌, ◌*◌, ◌/◌, ◌%◌, ◌<◌, ◌≤◌, List, [], ◌∷◌, ◌++◌, map, Bool, true, false, not, ◌&&◌, ◌||◌, refl, sym, ap, ◌∙◌, subst, if◌then◌else◌, cond, count_by, inl, inr, Some, None}
use Rattle.std.specs.List.{AllByRecursion, filter, cons_option}
use Rattle.std.proofs.lemmas.List.{append-nil}
use Rattle.clause_base.specs.Clause.{clause_of}
use Rattle.step_formula.proofs.EffectLaw.{result_codes}
use Rattle.formula_defs.proofs.published.Sorted.{at_least}
use Rattle.std.proofs.lemmas.List.Sums.{sum_by-append, sum_by-cons}
use Rattle.std.proofs.lemmas.List.Folds.{list_any-append}
use Rattle.gt_core.specs.Literal.{opposite}
use Rattle.gt_core.specs.Task.{Effect, EffectOf, owned}
use Rattle.gt_core.specs.Lawful.{is_conditional, are_effects}
use Rattle.formula_defs.specs.Layout.{Layout, width, action_at, conditional_at, fact_at}
use Rattle.gt_core.proofs.published.Basics.{Among, same_test}
use Rattle.gt_core.proofs.published.Literals.{odd_is_delete, delete_opposite}
use Rattle.formula_defs.specs.Clause.{Literal, Is, Not, code}
use Rattle.formula_defs.specs.Variables.{Row, rows_from, variable_at}
use Rattle.formula_defs.specs.Formula.{literal_over, effects_with, result_clause}
use Rattle.formula_defs.specs.Coded.{coded, literals_in}
use Rattle.formula_defs.proofs.published.ClauseSize.{IsOther, AreApart, two_size, apart_size, pair_size, has_pair, other_variable}
use Rattle.step_formula.specs.Rows.{row_of, rows_of, number_after, made, made_by}
use Rattle.step_formula.proofs.RowLaw.{made_parts, rows_parts}
use Rattle.step_formula.specs.own.Sizes.{adds_of, adds_surely, result_size}
use Rattle.step_formula.proofs.Names.{act_is, conditional_is, later_is, over_half}
use Rattle.step_formula.proofs.Variables.{IsOf, IsAbove, made_of, made_long, made_apart, made_none, above_unless_sure, own_if_sure}
use Rattle.gt_core.proofs.published.NextLaw.{owned_append}
use Rattle.step_formula.proofs.CountLaw.{none_there}
use Rattle.std.proofs.Math.Bool.{or-false}

-- How many literals the clause of what an effect makes true has.

-- among an action's own effects the action need not be asked for
pub own_made : (z : Layout) (a l j : ℕ) (es : List Effect) → made_by z a l (rows_of a j es) ≡ made z l (rows_of a j es)
own_made z a l j es = ap (λ (rs : List Row). map code (map (λ r. Is (variable_at z 0 r)) rs)) (own j es)
  where
    own : (j : ℕ) (es : List Effect) → filter (λ r. (r.effect.action == a) && (r.effect.literal == l)) (rows_of a j es) ≡ filter (λ r. r.effect.literal == l) (rows_of a j es)
    own j [] = refl
    own j (e ∷ es) = by (a == a) (e.literal == l) (same_test a a refl) (own (number_after j e) es)
      where
        by : (b c : Bool) → b ≡ true → filter (λ r. (r.effect.action == a) && (r.effect.literal == l)) (rows_of a (number_after j e) es) ≡ filter (λ r. r.effect.literal == l) (rows_of a (number_after j e) es) → (if b && c then row_of a j e ∷ filter (λ r. (r.effect.action == a) && (r.effect.literal == l)) (rows_of a (number_after j e) es) else filter (λ r. (r.effect.action == a) && (r.effect.literal == l)) (rows_of a (number_after j e) es)) ≡ (if c then row_of a j e ∷ filter (λ r. r.effect.literal == l) (rows_of a (number_after j e) es) else filter (λ r. r.effect.literal == l) (rows_of a (number_after j e) es))
        by true true t h = ap (λ (rs : List Row). row_of a j e ∷ rs) h
        by true false t h = h
        by false c t h = cc

module _ (z : Layout) (h1 : z.horizon ≡ 1) (a : ℕ) (la : a < z.actions) where
  -- the adds that overrule a delete are of other variables than the fact after the step
  facts_away : (f j top : ℕ) (ms : List ℕ) → top ≤ z.conditional → AllByRecursion (IsOf z 0 a j top) ms → AllByRecursion (IsOther (2 * fact_at z 1 f + 1)) ms
  facts_away f j top [] le w = tt
  facts_away f j top (m ∷ ms) le w =
      let k = later_is z f h1 in (
        other_variable _ m (width z + z.facts + f) (m / 2) (omega (arith, k)) refl (elim w.0 [ inl h ↦ (λ q. omega (arith, q, h, la)) | inr h ↦ (λ q. let x = h.1 in omega (arith, q, x, le)) ]),
        facts_away f j top ms le w.1,
      )

  above_away : (c u j : ℕ) (ms : List ℕ) → c / 2 ≡ u → u < z.actions + j → AllByRecursion (IsAbove z 0 j) ms → AllByRecursion (IsOther c) ms
  above_away c u j [] e lt w = tt
  above_away c u j (m ∷ ms) e lt w = (other_variable c m u (m / 2) e refl (λ q. let x = w.0 in omega (arith, q, x, lt)), above_away c u j ms e lt w.1)

  number_away : (k j top : ℕ) (ms : List ℕ) → top ≤ k → AllByRecursion (IsOf z 0 a j top) ms → AllByRecursion (IsOther (2 * conditional_at z 0 k + 1)) ms
  number_away k j top [] le w = tt
  number_away k j top (m ∷ ms) le w =
      let c = conditional_is z k in (
        other_variable _ m (z.actions + k) (m / 2) (omega (arith, c)) refl (elim w.0 [ inl h ↦ (λ q. omega (arith, q, h, la)) | inr h ↦ (λ q. let x = h.1 in omega (arith, q, x, le)) ]),
        number_away k j top ms le w.1,
      )

  add_result : (j : ℕ) (all : List Row) (e : Effect) → (is_conditional e ≡ true → j < z.conditional) → (e.literal % 2 == 0) ≡ true → literals_in (coded (result_clause (fact_at z 1) (variable_at z 0) all (row_of a j e) ∷ [])) ≡ 2
  add_result j all e lj t = by (e.literal % 2 == 0) t (is_conditional e) lj
    where
      rest : List Literal
      rest = effects_with (variable_at z 0) (λ f. (f.action == a) && (f.literal == opposite e.literal)) all

      two : (v : ℕ) → v < z.actions + z.conditional → literals_in (coded ((Not v ∷ literal_over (fact_at z 1) e.literal ∷ []) ∷ [])) ≡ 2
      two v lt =
          let k = later_is z (e.literal / 2) h1 in
          two_size (code (Not v)) (code (literal_over (fact_at z 1) e.literal)) v (width z + z.facts + e.literal / 2) [] (omega arith) (over_half (fact_at z 1) e.literal ∙ k) (λ q. omega (arith, q, lt))

      by : (b : Bool) → b ≡ true → (c : Bool) → (c ≡ true → j < z.conditional) → literals_in (coded ((Not (if c then conditional_at z 0 j else action_at z 0 a) ∷ literal_over (fact_at z 1) e.literal ∷ (if b then [] else rest)) ∷ [])) ≡ 2
      by true x true l = two (conditional_at z 0 j) (let k = conditional_is z j in let n = l refl in omega (arith, k, n))
      by true x false l = two (action_at z 0 a) (let k = act_is z a in omega (arith, k, la))
      by false x c l = absurd (let f : false ≡ true = x in cc)

  -- the clause of a delete, from the variables of its action's adds
  abbrev delete_codes : (number first f l : ℕ) → List Effect → Bool → List ℕ
  delete_codes number first f l before c = (2 * (if c then conditional_at z 0 number else action_at z 0 a) + 1) ∷ (2 * fact_at z 1 f + 1) ∷ made z l (rows_of a first before)

  delete_size : (facts number first f l : ℕ) (before : List Effect) → first + count_by is_conditional before ≡ number → number ≤ z.conditional
      → AreApart (made z l (rows_of a first before)) → (c : Bool) → (c ≡ true → number < z.conditional)
      → (s : Bool) → adds_surely before l ≡ s
      → literals_in (cons_option (clause_of (delete_codes number first f l before c)) []) ≡ (if s && not c then 0 else 2 + adds_of before l)
  delete_size facts number first f l before n le apart_all true lt s u =
      let made_ones = made_of z l a first before in
      let k = conditional_is z number in
      let g = later_is z f h1 in
      let long = made_long z l a first before in
      let two : IsOther (2 * conditional_at z 0 number + 1) (2 * fact_at z 1 f + 1) = other_variable _ _ (z.actions + number) (width z + z.facts + f) (omega (arith, k)) (omega (arith, g)) (λ q. let x = lt refl in omega (arith, q, x)) in
      let r = apart_size (delete_codes number first f l before true) [] (
        (two, number_away number first (first + count_by is_conditional before) (made z l (rows_of a first before)) (omega (arith, n)) made_ones),
        (facts_away f first (first + count_by is_conditional before) (made z l (rows_of a first before)) (omega (arith, n, le)) made_ones, apart_all),
      ) in
      conditional s (omega (arith, r, long))
    where
      conditional : (s : Bool) {x y : ℕ} → x ≡ y → x ≡ (if s && false then 0 else y)
      conditional true e = e
      conditional false e = e
  delete_size facts number first f l before n le apart_all false lt true u =
      let own = own_if_sure z l a first before u in
      let k = act_is z a in
      let o = delete_opposite (2 * action_at z 0 a + 1) (action_at z 0 a) refl in
      let there : opposite (2 * action_at z 0 a + 1) ≡ 2 * a = omega (arith, o, k) in
      pair_size (delete_codes number first f l before false) [] (has_pair (delete_codes number first f l before false) (2 * action_at z 0 a + 1) (inl refl) (inr (inr (subst (λ (m : ℕ). Among m (made z l (rows_of a first before))) (sym there) own))))
  delete_size facts number first f l before n le apart_all false lt false u =
      let made_ones = made_of z l a first before in
      let k = act_is z a in
      let g = later_is z f h1 in
      let long = made_long z l a first before in
      let two : IsOther (2 * action_at z 0 a + 1) (2 * fact_at z 1 f + 1) = other_variable _ _ a (width z + z.facts + f) (omega (arith, k)) (omega (arith, g)) (λ q. omega (arith, q, la)) in
      let r = apart_size (delete_codes number first f l before false) [] (
        (two, above_away (2 * action_at z 0 a + 1) a first (made z l (rows_of a first before)) (omega (arith, k)) (omega (arith, la)) (above_unless_sure z l a first before u)),
        (facts_away f first (first + count_by is_conditional before) (made z l (rows_of a first before)) (omega (arith, n, le)) made_ones, apart_all),
      ) in
      omega (arith, r, long)

-- the literals from a delete on are above the one before it
rest_above : (facts : ℕ) (e : Effect) (after : List Effect) → are_effects facts (Some e) after ≡ true → (e.literal % 2 == 0) ≡ false → AllByRecursion (λ d. opposite e.literal < d.literal) (e ∷ after)
rest_above facts e after h t =
    let v = odd_is_delete e.literal t in
    let o = delete_opposite e.literal (e.literal / 2) v in
    let lt : opposite e.literal < e.literal = omega (arith, v, o) in
    (lt, weaker (opposite e.literal) e.literal after lt (at_least facts e after h))
  where
    weaker : (m n : ℕ) (es : List Effect) → m < n → AllByRecursion (λ d. n ≤ d.literal) es → AllByRecursion (λ d. m < d.literal) es
    weaker m n [] lt w = tt
    weaker m n (x ∷ xs) lt w = (let k = w.0 in omega (arith, k, lt), weaker m n xs lt w.1)

-- effects in two parts

made_two : (z : Layout) (l a j : ℕ) (xs ys : List Effect) → made z l (rows_of a j (xs ++ ys)) ≡ made z l (rows_of a j xs) ++ made z l (rows_of a (j + count_by is_conditional xs) ys)
made_two z l a j xs ys =
    ap (λ (es : List EffectOf). made z l (rows_from j es)) (owned_append a xs ys)
    ∙ ap (made z l) (rows_parts a j xs (owned a ys))
    ∙ made_parts z l (rows_of a j xs) (rows_of a (j + count_by is_conditional xs) ys)

-- a sorted list of effects in two parts at one of them: those before it, and it with those after it
pub record IsSplit (facts : ℕ) (es before : List Effect) (e : Effect) (after : List Effect) : Type 0 where
  pub whole : es ≡ before ++ e ∷ after
  pub sorted : are_effects facts None es ≡ true
  pub before_sorted : are_effects facts None before ≡ true
  pub after_sorted : are_effects facts (Some e) after ≡ true

-- of the literal before a delete's, all effects stand before it
pub counts_before : (facts : ℕ) (es before : List Effect) (e : Effect) (after : List Effect) → IsSplit facts es before e after → (e.literal % 2 == 0) ≡ false → (adds_of es (opposite e.literal) ≡ adds_of before (opposite e.literal)) × (adds_surely es (opposite e.literal) ≡ adds_surely before (opposite e.literal))
counts_before facts es before e after p t =
    let l = opposite e.literal in
    let none = none_there (λ d. l < d.literal) l (λ d h q. omega (arith, h, q)) (e ∷ after) (rest_above facts e after p.after_sorted t) in
    let x = sum_by-append (λ (f : Effect). cond (f.literal == l) 1 0) before (e ∷ after) in
    let w = ap (λ (xs : List Effect). adds_of xs l) p.whole in
    let n = none.0 in (
      omega (arith, x, w, n),
      ap (λ (xs : List Effect). adds_surely xs l) p.whole ∙ list_any-append (λ (d : Effect). (d.literal == l) && not (is_conditional d)) before (e ∷ after) ∙ ap (λ (b : Bool). adds_surely before l || b) none.1 ∙ or-false (adds_surely before l),
    )

-- what an effect makes true
pub result_literals : (z : Layout) (a number first facts : ℕ) (es before : List Effect) (e : Effect) (after : List Effect) → z.horizon ≡ 1 → a < z.actions → IsSplit facts es before e after
    → first + count_by is_conditional before ≡ number → first + count_by is_conditional es ≤ z.conditional
    → literals_in (coded (result_clause (fact_at z 1) (variable_at z 0) (rows_of a first es) (row_of a number e) ∷ [])) ≡ result_size (adds_of es (opposite e.literal)) (adds_surely es (opposite e.literal)) e
result_literals z a number first facts es before e after h1 la p n few = by (e.literal % 2 == 0) refl
  where
    counted : first + count_by is_conditional before + count_by is_conditional (e ∷ after) ≤ z.conditional
    counted =
        let x = sum_by-append (λ (f : Effect). cond (is_conditional f) 1 0) before (e ∷ after) in
        let w = ap (count_by is_conditional) p.whole in
        omega (arith, x, w, few)

    number_below : is_conditional e ≡ true → number < z.conditional
    number_below t =
        let s = sum_by-cons (λ f. cond (is_conditional f) 1 0) e after in
        let w = ap {B = ℕ} (λ (b : Bool). cond b 1 0) t in
        let c = counted in
        omega (arith, s, w, c, n)

    by : (b : Bool) → (e.literal % 2 == 0) ≡ b → literals_in (coded (result_clause (fact_at z 1) (variable_at z 0) (rows_of a first es) (row_of a number e) ∷ [])) ≡ (if b then 2 else if adds_surely es (opposite e.literal) && not (is_conditional e) then 0 else 2 + adds_of es (opposite e.literal))
    by true t = add_result z h1 a la number (rows_of a first es) e number_below t
    by false t =
        let l = opposite e.literal in
        let c = counted in
        let codes : map code (result_clause (fact_at z 1) (variable_at z 0) (rows_of a first es) (row_of a number e)) ≡ delete_codes z h1 a la number first (e.literal / 2) l before (is_conditional e) =
        sym (result_codes z a number (variable_at z 0 (row_of a number e)) (code (literal_over (fact_at z 1) e.literal)) (rows_of a first es) e _ refl refl (ap (λ (b : Bool). (2 * variable_at z 0 (row_of a number e) + 1) ∷ code (literal_over (fact_at z 1) e.literal) ∷ (if b then [] else made_by z a l (rows_of a first es))) (sym t)))
        ∙ ap (λ (b : Bool). (2 * variable_at z 0 (row_of a number e) + 1) ∷ code (if b then Is (fact_at z 1 (e.literal / 2)) else Not (fact_at z 1 (e.literal / 2))) ∷ made_by z a l (rows_of a first es)) t
        ∙ ap (λ (ms : List ℕ). (2 * variable_at z 0 (row_of a number e) + 1) ∷ (2 * fact_at z 1 (e.literal / 2) + 1) ∷ ms)
        (own_made z a l first es ∙ ap (λ (xs : List Effect). made z l (rows_of a first xs)) p.whole ∙ made_two z l a first before (e ∷ after)
        ∙ ap (λ (ms : List ℕ). made z l (rows_of a first before) ++ ms) (made_none z l a (first + count_by is_conditional before) (e ∷ after) (rest_above facts e after p.after_sorted t)) ∙ append-nil (made z l (rows_of a first before))) in
        let both = counts_before facts es before e after p t in
        ap (λ (ls : List ℕ). literals_in (cons_option (clause_of ls) [])) codes
        ∙ delete_size z h1 a la facts number first (e.literal / 2) l before n (omega (arith, c, n)) (made_apart z l facts a first None before la p.before_sorted) (is_conditional e) number_below (adds_surely before l) refl
        ∙ ap (λ (k : ℕ). if adds_surely before l && not (is_conditional e) then 0 else 2 + k) (sym both.0)
        ∙ ap (λ (b : Bool). if b && not (is_conditional e) then 0 else 2 + adds_of es l) (sym both.1)
