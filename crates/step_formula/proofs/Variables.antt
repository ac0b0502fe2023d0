use Rattle.std.proofs.Common.{arith, ◌≡◌, ◌==◌, ℕ, ◌+◌, ◌*◌, ◌/◌, ◌<◌, ◌≤◌, List, [], ◌∷◌, map, length, Bool, true, false, not, ◌&&◌, ◌||◌, refl, sym, ap, ◌∙◌, subst, if◌then◌else◌, cond, count_by, ◌⊎◌, inl, inr, Option, Some}
use Rattle.std.specs.List.{filter, AllByRecursion}
use Rattle.std.proofs.lemmas.List.Sums.{sum_by-cons}
use Rattle.gt_core.specs.Task.{Effect}
use Rattle.gt_core.specs.Lawful.{is_conditional, are_effects}
use Rattle.formula_defs.specs.Layout.{Layout, action_at, conditional_at}
use Rattle.gt_core.proofs.published.Basics.{Among, same_test, test_same}
use Rattle.formula_defs.specs.Clause.{Is, code}
use Rattle.formula_defs.specs.Variables.{variable_at}
use Rattle.formula_defs.proofs.published.ClauseSize.{IsOther, AreApart, other_variable}
use Rattle.step_formula.specs.Rows.{row_of, rows_of, number_after, made}
use Rattle.step_formula.specs.own.Sizes.{adds_of, adds_surely}
use Rattle.formula_defs.proofs.published.Sorted.{parts, conditional_after}

-- The variables of an action's effects with one literal: they are distinct; each is the action's own, or that of a
-- conditional effect.

module _ (z : Layout) (l : ℕ) where
  -- one effect's variable comes first
  abbrev first : ℕ → ℕ → Effect → List ℕ → List ℕ
  first a j e rest = if e.literal == l then (2 * variable_at z 0 (row_of a j e)) ∷ rest else rest

  pub made_cons : (a j : ℕ) (e : Effect) (es : List Effect) → made z l (rows_of a j (e ∷ es)) ≡ first a j e (made z l (rows_of a (number_after j e) es))
  made_cons a j e es = by (e.literal == l)
    where
      by : (b : Bool) → map code (map (λ r. Is (variable_at z 0 r)) (if b then row_of a j e ∷ filter (λ r. r.effect.literal == l) (rows_of a (number_after j e) es) else filter (λ r. r.effect.literal == l) (rows_of a (number_after j e) es))) ≡ (if b then (2 * variable_at z 0 (row_of a j e)) ∷ made z l (rows_of a (number_after j e) es) else made z l (rows_of a (number_after j e) es))
      by true = refl
      by false = refl

  -- the numbers of effects' variables: the action's, or those of conditional effects from one on and below another
  abbrev pub IsOf : (a low top : ℕ) → ℕ → Type 0
  IsOf a low top m = (m / 2 ≡ a) ⊎ ((z.actions + low ≤ m / 2) × (m / 2 < z.actions + top))

  wider : (a low low2 top : ℕ) (ms : List ℕ) → low ≤ low2 → AllByRecursion (IsOf a low2 top) ms → AllByRecursion (IsOf a low top) ms
  wider a low low2 top [] le w = tt
  wider a low low2 top (m ∷ ms) le w = (elim w.0 [ inl h ↦ inl h | inr h ↦ let x = h.0 in let y = h.1 in inr (omega (arith, x, le), y) ], wider a low low2 top ms le w.1)

  next_le : (j : ℕ) (e : Effect) → j ≤ number_after j e
  next_le j e = by (is_conditional e)
    where
      by : (b : Bool) → j ≤ (if b then j + 1 else j)
      by true = omega arith
      by false = omega arith

  next_count : (j : ℕ) (e : Effect) (es : List Effect) → number_after j e + count_by is_conditional es ≡ j + count_by is_conditional (e ∷ es)
  next_count j e es = by (is_conditional e) refl
    where
      by : (b : Bool) → is_conditional e ≡ b → (if b then j + 1 else j) + count_by is_conditional es ≡ j + count_by is_conditional (e ∷ es)
      by true t = let s = sum_by-cons (λ f. cond (is_conditional f) 1 0) e es in let w = ap {B = ℕ} (λ (b : Bool). cond b 1 0) t in omega (arith, s, w)
      by false t = let s = sum_by-cons (λ f. cond (is_conditional f) 1 0) e es in let w = ap {B = ℕ} (λ (b : Bool). cond b 1 0) t in omega (arith, s, w)

  own : (a j : ℕ) (e : Effect) → is_conditional e ≡ false → (2 * variable_at z 0 (row_of a j e)) / 2 ≡ a
  own a j e t = by (is_conditional e) t
    where
      by : (b : Bool) → b ≡ false → (2 * (if b then conditional_at z 0 j else action_at z 0 a)) / 2 ≡ a
      by true f = cc
      by false f = omega arith

  numbered : (a j : ℕ) (e : Effect) → is_conditional e ≡ true → (2 * variable_at z 0 (row_of a j e)) / 2 ≡ z.actions + j
  numbered a j e t = by (is_conditional e) t
    where
      by : (b : Bool) → b ≡ true → (2 * (if b then conditional_at z 0 j else action_at z 0 a)) / 2 ≡ z.actions + j
      by true f = omega arith
      by false f = cc

  pub made_of : (a j : ℕ) (es : List Effect) → AllByRecursion (IsOf a j (j + count_by is_conditional es)) (made z l (rows_of a j es))
  made_of a j [] = tt
  made_of a j (e ∷ es) =
      subst (λ (ms : List ℕ). AllByRecursion (IsOf a j (j + count_by is_conditional (e ∷ es))) ms) (sym (made_cons a j e es))
      (by (e.literal == l) (is_conditional e) refl
      (wider a j (number_after j e) (j + count_by is_conditional (e ∷ es)) (made z l (rows_of a (number_after j e) es)) (next_le j e)
      (subst (λ (n : ℕ). AllByRecursion (IsOf a (number_after j e) n) (made z l (rows_of a (number_after j e) es))) (next_count j e es) (made_of a (number_after j e) es))))
    where
      by : (b c : Bool) → is_conditional e ≡ c → AllByRecursion (IsOf a j (j + count_by is_conditional (e ∷ es))) (made z l (rows_of a (number_after j e) es)) → AllByRecursion (IsOf a j (j + count_by is_conditional (e ∷ es))) (if b then (2 * variable_at z 0 (row_of a j e)) ∷ made z l (rows_of a (number_after j e) es) else made z l (rows_of a (number_after j e) es))
      by true true t rest = let n = numbered a j e t in let s = sum_by-cons (λ f. cond (is_conditional f) 1 0) e es in let w = ap {B = ℕ} (λ (b : Bool). cond b 1 0) t in (inr (omega (arith, n), omega (arith, n, s, w)), rest)
      by true false t rest = (inl (own a j e t), rest)
      by false c t rest = rest

  -- how many there are
  pub made_long : (a j : ℕ) (es : List Effect) → length (made z l (rows_of a j es)) ≡ adds_of es l
  made_long a j [] = refl
  made_long a j (e ∷ es) = ap length (made_cons a j e es) ∙ by (e.literal == l) refl (made_long a (number_after j e) es)
    where
      by : (b : Bool) → (e.literal == l) ≡ b → length (made z l (rows_of a (number_after j e) es)) ≡ adds_of es l → length (if b then (2 * variable_at z 0 (row_of a j e)) ∷ made z l (rows_of a (number_after j e) es) else made z l (rows_of a (number_after j e) es)) ≡ adds_of (e ∷ es) l
      by true t h = let s = sum_by-cons (λ (f : Effect). cond (f.literal == l) 1 0) e es in let w = ap {B = ℕ} (λ (b : Bool). cond b 1 0) t in omega (arith, h, s, w)
      by false t h = let s = sum_by-cons (λ (f : Effect). cond (f.literal == l) 1 0) e es in let w = ap {B = ℕ} (λ (b : Bool). cond b 1 0) t in omega (arith, h, s, w)

  -- without an effect that has the literal and no condition, none is the action's own
  abbrev pub IsAbove : ℕ → ℕ → Type 0
  IsAbove low m = z.actions + low ≤ m / 2

  above_wider : (low low2 : ℕ) (ms : List ℕ) → low ≤ low2 → AllByRecursion (IsAbove low2) ms → AllByRecursion (IsAbove low) ms
  above_wider low low2 [] le w = tt
  above_wider low low2 (m ∷ ms) le w = (let h = w.0 in omega (arith, h, le), above_wider low low2 ms le w.1)

  pub made_above : (a j : ℕ) (es : List Effect) → AllByRecursion (λ e. e.literal ≡ l → is_conditional e ≡ true) es → AllByRecursion (IsAbove j) (made z l (rows_of a j es))
  made_above a j [] w = tt
  made_above a j (e ∷ es) w =
      subst (λ (ms : List ℕ). AllByRecursion (IsAbove j) ms) (sym (made_cons a j e es)) (by (e.literal == l) refl (above_wider j (number_after j e) _ (next_le j e) (made_above a (number_after j e) es w.1)))
    where
      by : (b : Bool) → (e.literal == l) ≡ b → AllByRecursion (IsAbove j) (made z l (rows_of a (number_after j e) es)) → AllByRecursion (IsAbove j) (if b then (2 * variable_at z 0 (row_of a j e)) ∷ made z l (rows_of a (number_after j e) es) else made z l (rows_of a (number_after j e) es))
      by true t r = let n = numbered a j e (w.0 (test_same e.literal l t)) in (omega (arith, n), r)
      by false t r = r

  not_sure : (es : List Effect) → adds_surely es l ≡ false → AllByRecursion (λ e. e.literal ≡ l → is_conditional e ≡ true) es
  not_sure [] h = tt
  not_sure (e ∷ es) h = (λ q. by (e.literal == l) (is_conditional e) refl (same_test e.literal l q) h, not_sure es (rest ((e.literal == l) && not (is_conditional e)) h))
    where
      rest : (b : Bool) → (b || adds_surely es l) ≡ false → adds_surely es l ≡ false
      rest true t = cc
      rest false t = t

      by : (b c : Bool) → is_conditional e ≡ c → b ≡ true → ((b && not c) || adds_surely es l) ≡ false → is_conditional e ≡ true
      by true true t q g = t
      by true false t q g = cc
      by false c t q g = cc

  pub above_unless_sure : (a j : ℕ) (es : List Effect) → adds_surely es l ≡ false → AllByRecursion (IsAbove j) (made z l (rows_of a j es))
  above_unless_sure a j es h = made_above a j es (not_sure es h)

  -- with one, the action's own is among them
  pub own_if_sure : (a j : ℕ) (es : List Effect) → adds_surely es l ≡ true → Among (2 * a) (made z l (rows_of a j es))
  own_if_sure a j [] h = absurd (let f : false ≡ true = h in cc)
  own_if_sure a j (e ∷ es) h =
      subst (λ (ms : List ℕ). Among (2 * a) ms) (sym (made_cons a j e es)) (by (e.literal == l) (is_conditional e) refl h (λ g. own_if_sure a (number_after j e) es g))
    where
      by : (b c : Bool) → is_conditional e ≡ c → ((b && not c) || adds_surely es l) ≡ true → (adds_surely es l ≡ true → Among (2 * a) (made z l (rows_of a (number_after j e) es))) → Among (2 * a) (if b then (2 * variable_at z 0 (row_of a j e)) ∷ made z l (rows_of a (number_after j e) es) else made z l (rows_of a (number_after j e) es))
      by true true t g on = inr (on g)
      by true false t g on = let o = own a j e t in inl (omega (arith, o))
      by false c t g on = on g

  other_all : (m u : ℕ) (ms : List ℕ) → m / 2 ≡ u → AllByRecursion (λ k. k / 2 ≡ u → ⊥) ms → AllByRecursion (IsOther m) ms
  other_all m u [] e w = tt
  other_all m u (k ∷ ms) e w = (other_variable m k u (k / 2) e refl (λ q. w.0 (sym q)), other_all m u ms e w.1)

  past_all : (a j top u : ℕ) (ms : List ℕ) → a < z.actions → (u ≡ a → ⊥) → u < z.actions + j → AllByRecursion (IsOf a j top) ms → AllByRecursion (λ k. k / 2 ≡ u → ⊥) ms
  past_all a j top u [] lt ne le w = tt
  past_all a j top u (k ∷ ms) lt ne le w = (elim w.0 [ inl h ↦ (λ q. ne (sym q ∙ h)) | inr h ↦ (λ q. let x = h.0 in omega (arith, x, q, le)) ], past_all a j top u ms lt ne le w.1)

  above_all : (j u : ℕ) (ms : List ℕ) → u < z.actions + j → AllByRecursion (IsAbove j) ms → AllByRecursion (λ k. k / 2 ≡ u → ⊥) ms
  above_all j u [] le w = tt
  above_all j u (k ∷ ms) le w = ((λ q. let x = w.0 in omega (arith, x, q, le)), above_all j u ms le w.1)

  -- they are distinct
  pub made_apart : (facts a j : ℕ) (last : Option Effect) (es : List Effect) → a < z.actions → are_effects facts last es ≡ true → AreApart (made z l (rows_of a j es))
  made_apart facts a j last [] lt h = tt
  made_apart facts a j last (e ∷ es) lt h =
      let p = parts facts last e es h in
      subst (λ (ms : List ℕ). AreApart ms) (sym (made_cons a j e es)) (by (e.literal == l) (is_conditional e) refl refl p.rest (made_apart facts a (number_after j e) (Some e) es lt p.rest))
    where
      after : (c : Bool) → is_conditional e ≡ c → number_after j e ≡ (if c then j + 1 else j)
      after c t = ap (λ (b : Bool). if b then j + 1 else j) t

      by : (b c : Bool) → (e.literal == l) ≡ b → is_conditional e ≡ c → are_effects facts (Some e) es ≡ true → AreApart (made z l (rows_of a (number_after j e) es)) → AreApart (if b then (2 * variable_at z 0 (row_of a j e)) ∷ made z l (rows_of a (number_after j e) es) else made z l (rows_of a (number_after j e) es))
      by true true s t g rest =
          let n = numbered a j e t in
          let k = after true t in
          (other_all _ (z.actions + j) _ n (past_all a (number_after j e) _ (z.actions + j) _ lt (λ q. omega (arith, q, lt)) (omega (arith, k)) (made_of a (number_after j e) es)), rest)
      by true false s t g rest =
          let n = own a j e t in
          let c = conditional_after facts l e es (let q = test_same e.literal l s in omega (arith, q)) g in
          (other_all _ a _ n (above_all (number_after j e) a _ (omega (arith, lt)) (made_above a (number_after j e) es c)), rest)
      by false c s t g rest = rest

  -- a literal that no effect has
  pub made_none : (a j : ℕ) (es : List Effect) → AllByRecursion (λ e. l < e.literal) es → made z l (rows_of a j es) ≡ []
  made_none a j [] w = refl
  made_none a j (e ∷ es) w = made_cons a j e es ∙ by (e.literal == l) refl (made_none a (number_after j e) es w.1)
    where
      by : (b : Bool) → (e.literal == l) ≡ b → made z l (rows_of a (number_after j e) es) ≡ [] → (if b then (2 * variable_at z 0 (row_of a j e)) ∷ made z l (rows_of a (number_after j e) es) else made z l (rows_of a (number_after j e) es)) ≡ []
      by true t r = let q = test_same e.literal l t in let x = w.0 in absurd (omega (arith, q, x))
      by false t r = r
