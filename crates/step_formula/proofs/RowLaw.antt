use Rattle.std.proofs.Common.{arith, ◌≡◌, ◌==◌, ℕ, zero, suc, ◌+◌, ◌*◌, ◌<◌, ◌≤◌, List, [], ◌∷◌, ◌++◌, map, length, take, drop, get_or, Bool, true, false, ◌&&◌, if◌then◌else◌, cond, count_by, refl, sym, ap, ◌∙◌}
use Rattle.std.specs.List.{filter}
use Rattle.std.proofs.lemmas.List.{drop_more, take_more}
use Rattle.std.proofs.lemmas.List.Sums.{sum_by-cons, sum_by-append}
use Rattle.std.proofs.lemmas.Bool.Decides.{nat_tests}
use Rattle.gt_core.specs.Task.{Effect, Action, Task, EffectOf, owned, effects_from, action}
use Rattle.gt_core.specs.Lawful.{is_conditional, conditional_in}
use Rattle.formula_defs.specs.Layout.{Layout}
use Rattle.formula_defs.specs.Clause.{Is, code}
use Rattle.formula_defs.specs.Variables.{Row, rows_from, variable_at}
use Rattle.step_formula.specs.Rows.{row_of, rows_of, number_after, made_by, made}
use Rattle.std.proofs.lemmas.List.Elements.{filter-append}
use Rattle.std.proofs.lemmas.List.{append-nil}
use Rattle.std.proofs.lemmas.Bool.{ne_eqb}

-- Effects with their numbers.

-- an effect's number is one of the layout's
pub number_fits : (number top : ℕ) (es : List Effect) (i : ℕ) (d e : Effect) → number + count_by is_conditional (drop i es) ≤ top → i < length es → e ≡ get_or es i d → is_conditional e ≡ true → number < top
number_fits number top es i d e le lt is t =
    let x = ap (count_by is_conditional) (drop_more es i d lt) in
    let y = sum_by-cons (λ f. cond (is_conditional f) 1 0) (get_or es i d) (drop (i + 1) es) in
    let z = ap {B = ℕ} (λ (f : Effect). cond (is_conditional f) 1 0) (sym is) in
    let w = ap {B = ℕ} (λ (b : Bool). cond b 1 0) t in
    omega (arith, le, x, y, z, w)

-- and so is the next
pub number_next : (number top next : ℕ) (es : List Effect) (i : ℕ) (d e : Effect) → number + count_by is_conditional (drop i es) ≤ top → i < length es → e ≡ get_or es i d → next ≡ number_after number e → next + count_by is_conditional (drop (i + 1) es) ≤ top
number_next number top next es i d e le lt is n = by (is_conditional e) refl n
  where
    by : (b : Bool) → is_conditional e ≡ b → next ≡ (if b then number + 1 else number) → next + count_by is_conditional (drop (i + 1) es) ≤ top
    by true t m =
        let x = ap (count_by is_conditional) (drop_more es i d lt) in
        let y = sum_by-cons (λ f. cond (is_conditional f) 1 0) (get_or es i d) (drop (i + 1) es) in
        let z = ap {B = ℕ} (λ (f : Effect). cond (is_conditional f) 1 0) (sym is) in
        let w = ap {B = ℕ} (λ (b : Bool). cond b 1 0) t in
        omega (arith, le, x, y, z, w, m)
    by false t m =
        let x = ap (count_by is_conditional) (drop_more es i d lt) in
        let y = sum_by-cons (λ f. cond (is_conditional f) 1 0) (get_or es i d) (drop (i + 1) es) in
        omega (arith, le, x, y, m)

-- the number of the next effect, by the effects before it
pub number_taken : (first number next : ℕ) (es : List Effect) (i : ℕ) (d e : Effect) → number ≡ first + count_by is_conditional (take i es) → i < length es → e ≡ get_or es i d → next ≡ number_after number e → next ≡ first + count_by is_conditional (take (i + 1) es)
number_taken first number next es i d e h lt is n = by (is_conditional e) refl n
  where
    whole : count_by is_conditional (take (i + 1) es) ≡ count_by is_conditional (take i es) + cond (is_conditional e) 1 0
    whole =
        let x = ap (count_by is_conditional) (take_more es i d lt) in
        let y = sum_by-append (λ f. cond (is_conditional f) 1 0) (take i es) (get_or es i d ∷ []) in
        let v = sum_by-cons (λ f. cond (is_conditional f) 1 0) (get_or es i d) [] in
        let z = ap {B = ℕ} (λ (f : Effect). cond (is_conditional f) 1 0) (sym is) in
        omega (arith, x, y, v, z)

    by : (b : Bool) → is_conditional e ≡ b → next ≡ (if b then number + 1 else number) → next ≡ first + count_by is_conditional (take (i + 1) es)
    by true t m = let s = whole in let w = ap {B = ℕ} (λ (b : Bool). cond b 1 0) t in omega (arith, s, w, m, h)
    by false t m = let s = whole in let w = ap {B = ℕ} (λ (b : Bool). cond b 1 0) t in omega (arith, s, w, m, h)

pub conditional_taken : (acts : List Action) (i : ℕ) (d : Action) → i < length acts → conditional_in (take (i + 1) acts) ≡ conditional_in (take i acts) + count_by is_conditional (get_or acts i d).effects
conditional_taken acts i d lt =
    let x = ap conditional_in (take_more acts i d lt) in
    let y = sum_by-append (λ a. count_by is_conditional a.effects) (take i acts) (get_or acts i d ∷ []) in
    let z = sum_by-cons (λ a. count_by is_conditional a.effects) (get_or acts i d) [] in
    omega (arith, x, y, z)

-- the number of the next action's first conditional effect
pub first_more : (task : Task) (a first own : ℕ) (x : Action) → x ≡ action task a → own ≡ count_by is_conditional x.effects → a < length task.actions
    → first ≡ conditional_in (take a task.actions) → first + own ≡ conditional_in (take (a + 1) task.actions)
first_more task a first own x is count lt e =
    let taken = conditional_taken task.actions a (record { precondition = []; effects = [] }) lt in
    let same = ap (λ (y : Action). count_by is_conditional y.effects) is in
    omega (arith, taken, same, count, e)

pub taken_and_left : (acts : List Action) (i : ℕ) → conditional_in (take i acts) + conditional_in (drop i acts) ≡ conditional_in acts
taken_and_left [] zero = refl
taken_and_left [] (suc i) = refl
taken_and_left (x ∷ acts) zero = omega arith
taken_and_left (x ∷ acts) (suc i) =
    let a = sum_by-cons (λ a. count_by is_conditional a.effects) x (take i acts) in
    let b = sum_by-cons (λ a. count_by is_conditional a.effects) x acts in
    let h = taken_and_left acts i in
    omega (arith, a, b, h)

-- rows in two parts
pub rows_parts : (a j : ℕ) (es : List Effect) (more : List EffectOf) → rows_from j (owned a es ++ more) ≡ rows_from j (owned a es) ++ rows_from (j + count_by is_conditional es) more
rows_parts a j [] more = ap (λ (k : ℕ). rows_from k more) (omega arith)
rows_parts a j (e ∷ es) more =
    ap (λ (r : List Row). row_of a j e ∷ r) (rows_parts a (number_after j e) es more
    ∙ ap (λ (k : ℕ). rows_from (number_after j e) (owned a es) ++ rows_from k more) (by (is_conditional e) refl))
  where
    by : (b : Bool) → is_conditional e ≡ b → (if b then j + 1 else j) + count_by is_conditional es ≡ j + count_by is_conditional (e ∷ es)
    by true t = let y = sum_by-cons (λ f. cond (is_conditional f) 1 0) e es in let w = ap {B = ℕ} (λ (b : Bool). cond b 1 0) t in omega (arith, y, w)
    by false t = let y = sum_by-cons (λ f. cond (is_conditional f) 1 0) e es in let w = ap {B = ℕ} (λ (b : Bool). cond b 1 0) t in omega (arith, y, w)

codes_parts : (z : Layout) (xs ys : List Row) → map code (map (λ r. Is (variable_at z 0 r)) (xs ++ ys)) ≡ map code (map (λ r. Is (variable_at z 0 r)) xs) ++ map code (map (λ r. Is (variable_at z 0 r)) ys)
codes_parts z [] ys = refl
codes_parts z (x ∷ xs) ys = ap (λ (r : List ℕ). 2 * variable_at z 0 x ∷ r) (codes_parts z xs ys)

-- the variables of effects in two parts
pub made_by_parts : (z : Layout) (a l : ℕ) (xs ys : List Row) → made_by z a l (xs ++ ys) ≡ made_by z a l xs ++ made_by z a l ys
made_by_parts z a l xs ys =
    ap (λ (r : List Row). map code (map (λ r. Is (variable_at z 0 r)) r)) (filter-append (λ r. (r.effect.action == a) && (r.effect.literal == l)) xs ys)
    ∙ codes_parts z (filter (λ r. (r.effect.action == a) && (r.effect.literal == l)) xs) (filter (λ r. (r.effect.action == a) && (r.effect.literal == l)) ys)

pub made_parts : (z : Layout) (l : ℕ) (xs ys : List Row) → made z l (xs ++ ys) ≡ made z l xs ++ made z l ys
made_parts z l xs ys =
    ap (λ (r : List Row). map code (map (λ r. Is (variable_at z 0 r)) r)) (filter-append (λ r. r.effect.literal == l) xs ys)
    ∙ codes_parts z (filter (λ r. r.effect.literal == l) xs) (filter (λ r. r.effect.literal == l) ys)

-- one more effect
pub rows_step : (a number : ℕ) (es : List Effect) (i : ℕ) (d e : Effect) → i < length es → e ≡ get_or es i d → rows_of a number (drop i es) ≡ row_of a number e ∷ rows_of a (number_after number e) (drop (i + 1) es)
rows_step a number es i d e lt is =
    ap (rows_of a number) (drop_more es i d lt)
    ∙ ap (λ (f : Effect). row_of a number f ∷ rows_of a (number_after number f) (drop (i + 1) es)) (sym is)

pub made_none : (z : Layout) (a j l : ℕ) (e : Effect) → (e.literal ≡ l → ⊥) → made_by z a l (row_of a j e ∷ []) ≡ []
made_none z a j l e h = by (a == a) (e.literal == l) refl
  where
    by : (b c : Bool) → (e.literal == l) ≡ c → map code (map (λ r. Is (variable_at z 0 r)) (if b && c then row_of a j e ∷ [] else [])) ≡ []
    by true true y = let s : e.literal ≡ l = grind (arith, nat_tests) in absurd (h s)
    by true false y = refl
    by false c y = refl

-- Of all rows only those of an action have it.

none_of_owned : (q : EffectOf → Bool) (a b j : ℕ) (es : List Effect) → (b == a) ≡ false → filter (λ r. (r.effect.action == a) && q r.effect) (rows_from j (owned b es)) ≡ []
none_of_owned q a b j [] n = refl
none_of_owned q a b j (e ∷ es) n = by (b == a) (q (row_of b j e).effect) n (none_of_owned q a b (number_after j e) es n)
  where
    by : (c d : Bool) → c ≡ false → filter (λ r. (r.effect.action == a) && q r.effect) (rows_from (number_after j e) (owned b es)) ≡ [] → (if c && d then row_of b j e ∷ filter (λ r. (r.effect.action == a) && q r.effect) (rows_from (number_after j e) (owned b es)) else filter (λ r. (r.effect.action == a) && q r.effect) (rows_from (number_after j e) (owned b es))) ≡ []
    by true d x h = cc
    by false d x h = h

none_from : (q : EffectOf → Bool) (a b j : ℕ) (xs : List Action) → a < b → filter (λ r. (r.effect.action == a) && q r.effect) (rows_from j (effects_from b xs)) ≡ []
none_from q a b j [] lt = refl
none_from q a b j (x ∷ xs) lt =
    ap (filter (λ r. (r.effect.action == a) && q r.effect)) (rows_parts b j x.effects (effects_from (b + 1) xs))
    ∙ filter-append (λ r. (r.effect.action == a) && q r.effect) (rows_from j (owned b x.effects)) (rows_from (j + count_by is_conditional x.effects) (effects_from (b + 1) xs))
    ∙ ap (λ (r : List Row). r ++ filter (λ r. (r.effect.action == a) && q r.effect) (rows_from (j + count_by is_conditional x.effects) (effects_from (b + 1) xs))) (none_of_owned q a b j x.effects (ne_eqb b a (λ e. absurd (omega (arith, e, lt)))))
    ∙ none_from q a (b + 1) (j + count_by is_conditional x.effects) xs (omega arith)

pub only_of : (q : EffectOf → Bool) (a b k j : ℕ) (xs : List Action) (d : Action) → k < length xs → a ≡ b + k → filter (λ r. (r.effect.action == a) && q r.effect) (rows_from j (effects_from b xs)) ≡ filter (λ r. (r.effect.action == a) && q r.effect) (rows_from (j + conditional_in (take k xs)) (owned a (get_or xs k d).effects))
only_of q a b k j [] d lt e = absurd (omega arith)
only_of q a b zero j (x ∷ xs) d lt e =
    let s : a ≡ b = omega (arith, e) in
    let t : j ≡ j + 0 = omega arith in
    ap (filter (λ r. (r.effect.action == a) && q r.effect)) (rows_parts b j x.effects (effects_from (b + 1) xs))
    ∙ filter-append (λ r. (r.effect.action == a) && q r.effect) (rows_from j (owned b x.effects)) (rows_from (j + count_by is_conditional x.effects) (effects_from (b + 1) xs))
    ∙ ap (λ (r : List Row). filter (λ r. (r.effect.action == a) && q r.effect) (rows_from j (owned b x.effects)) ++ r) (none_from q a (b + 1) (j + count_by is_conditional x.effects) xs (omega (arith, e)))
    ∙ append-nil (filter (λ r. (r.effect.action == a) && q r.effect) (rows_from j (owned b x.effects)))
    ∙ ap (λ (k : ℕ). filter (λ r. (r.effect.action == a) && q r.effect) (rows_from j (owned k x.effects))) (sym s)
    ∙ ap (λ (k : ℕ). filter (λ r. (r.effect.action == a) && q r.effect) (rows_from k (owned a x.effects))) t
only_of q a b (suc k) j (x ∷ xs) d lt e =
    let y = sum_by-cons (λ a. count_by is_conditional a.effects) x (take k xs) in
    let t : j + count_by is_conditional x.effects + conditional_in (take k xs) ≡ j + conditional_in (x ∷ take k xs) = omega (arith, y) in
    ap (filter (λ r. (r.effect.action == a) && q r.effect)) (rows_parts b j x.effects (effects_from (b + 1) xs))
    ∙ filter-append (λ r. (r.effect.action == a) && q r.effect) (rows_from j (owned b x.effects)) (rows_from (j + count_by is_conditional x.effects) (effects_from (b + 1) xs))
    ∙ ap (λ (r : List Row). r ++ filter (λ r. (r.effect.action == a) && q r.effect) (rows_from (j + count_by is_conditional x.effects) (effects_from (b + 1) xs))) (none_of_owned q a b j x.effects (ne_eqb b a (λ h. absurd (omega (arith, e, h)))))
    ∙ only_of q a (b + 1) k (j + count_by is_conditional x.effects) xs d (omega (arith, lt)) (omega (arith, e))
    ∙ ap (λ (k2 : ℕ). filter (λ r. (r.effect.action == a) && q r.effect) (rows_from k2 (owned a (get_or xs k d).effects))) t
