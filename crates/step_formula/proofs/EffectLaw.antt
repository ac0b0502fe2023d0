use Rattle.std.proofs.Common.{arith, ◌≡◌, ◌==◌, ℕ, ◌+◌, ◌*◌, ◌%◌, ◌<◌, List, [], ◌∷◌, ◌++◌, map, length, take, drop, get_or, Bool, true, false, ◌&&◌, if◌then◌else◌, count_by, refl, sym, ap, ◌∙◌, subst}
use Rattle.std.specs.List.{filter, cons_option, AllByRecursion}
use Rattle.std.proofs.lemmas.List.{drop_more}
use Rattle.gt_core.specs.Literal.{opposite}
use Rattle.gt_core.specs.Task.{Effect, Action, Task, owned, effects_from, action}
use Rattle.gt_core.specs.Lawful.{is_conditional, conditional_in, is_task}
use Rattle.gt_core.specs.Active.{EffectWithin}
use Rattle.gt_core.proofs.published.Within.{action_effects_within}
use Rattle.formula_defs.specs.Layout.{Layout, action_at, fact_at}
use Rattle.clause_base.specs.Clause.{clause_of}
use Rattle.formula_defs.specs.Clause.{Literal, Is, Not, code}
use Rattle.formula_defs.specs.Variables.{Row, rows, rows_from, variable_at}
use Rattle.formula_defs.specs.Formula.{literal_over, effects_with, meaning_clauses, result_clause, effect_clauses}
use Rattle.formula_defs.specs.Coded.{coded}
use Rattle.formula_defs.proofs.published.CodedLaw.{coded-append}
use Rattle.step_formula.specs.Rows.{row_of, rows_of, number_after, made_by}
use Rattle.step_formula.proofs.Groups.{joined_twice, rest}
use Rattle.step_formula.proofs.RowLaw.{rows_step, rows_parts, only_of}

-- The clauses of effects, part by part.

-- two groups, one after the other
pub two_parts : (xs ys : List (List Literal)) (before middle after : List (List ℕ)) → middle ≡ before ++ coded xs → after ≡ middle ++ coded ys → after ≡ before ++ coded (xs ++ ys)
two_parts xs ys before middle after h g =
    g ∙ ap (λ (r : List (List ℕ)). r ++ coded ys) h ∙ joined_twice before (coded xs) (coded ys)
    ∙ ap (λ (r : List (List ℕ)). before ++ r) (sym (coded-append xs ys))

-- a clause from its codes
pub one_clause : (c : List Literal) (lits : List ℕ) (before after : List (List ℕ)) → lits ≡ map code c → after ≡ before ++ cons_option (clause_of lits) [] → after ≡ before ++ coded (c ∷ [])
one_clause c lits before after e h = h ∙ ap (λ (ls : List ℕ). before ++ cons_option (clause_of ls) []) e

abbrev meaning : Layout → ℕ → ℕ → List ℕ → List (List Literal)
meaning z a u ls = (Not u ∷ Is (action_at z 0 a) ∷ []) ∷ (map (λ c. Not u ∷ literal_over (fact_at z 0) c ∷ []) ls ++ (Is u ∷ Not (action_at z 0 a) ∷ map (λ c. literal_over (fact_at z 0) (opposite c)) ls) ∷ [])

-- what a conditional effect's variable means
pub meaning_parts : (z : Layout) (a j : ℕ) (e : Effect) (v : ℕ) (condition : List ℕ) (before first second after : List (List ℕ)) → is_conditional e ≡ true → v ≡ variable_at z 0 (row_of a j e) → condition ≡ e.condition
    → first ≡ before ++ coded ((Not v ∷ Is (action_at z 0 a) ∷ []) ∷ [])
    → second ≡ first ++ coded (map (λ c. Not v ∷ literal_over (fact_at z 0) c ∷ []) condition)
    → after ≡ second ++ coded ((Is v ∷ Not (action_at z 0 a) ∷ map (λ c. literal_over (fact_at z 0) (opposite c)) condition) ∷ [])
    → after ≡ before ++ coded (meaning_clauses (action_at z 0) (fact_at z 0) (variable_at z 0) (row_of a j e))
meaning_parts z a j e v condition before first second after t n k h g f =
    two_parts ((Not v ∷ Is (action_at z 0 a) ∷ []) ∷ map (λ c. Not v ∷ literal_over (fact_at z 0) c ∷ []) condition) ((Is v ∷ Not (action_at z 0 a) ∷ map (λ c. literal_over (fact_at z 0) (opposite c)) condition) ∷ []) before second after
    (two_parts ((Not v ∷ Is (action_at z 0 a) ∷ []) ∷ []) (map (λ c. Not v ∷ literal_over (fact_at z 0) c ∷ []) condition) before first second h g) f
    ∙ ap (λ (ls : List ℕ). before ++ coded (meaning z a v ls)) k
    ∙ ap (λ (u : ℕ). before ++ coded (meaning z a u e.condition)) n
    ∙ ap (λ (cs : List (List Literal)). before ++ coded cs) (by (is_conditional e) t (meaning z a (variable_at z 0 (row_of a j e)) e.condition))
  where
    by : (b : Bool) → b ≡ true → (cs : List (List Literal)) → cs ≡ (if b then cs else [])
    by true e cs = refl
    by false e cs = cc

-- what an effect makes true, in codes
pub result_codes : (z : Layout) (a j v m : ℕ) (all : List Row) (e : Effect) (lits : List ℕ) → v ≡ variable_at z 0 (row_of a j e) → m ≡ code (literal_over (fact_at z 1) e.literal) → lits ≡ (2 * v + 1) ∷ m ∷ (if e.literal % 2 == 0 then [] else made_by z a (opposite e.literal) all) → lits ≡ map code (result_clause (fact_at z 1) (variable_at z 0) all (row_of a j e))
result_codes z a j v m all e lits n k h =
    h ∙ ap (λ (u : ℕ). (2 * u + 1) ∷ m ∷ (if e.literal % 2 == 0 then [] else made_by z a (opposite e.literal) all)) n
    ∙ ap (λ (u : ℕ). (2 * variable_at z 0 (row_of a j e) + 1) ∷ u ∷ (if e.literal % 2 == 0 then [] else made_by z a (opposite e.literal) all)) k
    ∙ ap (λ (r : List ℕ). (2 * variable_at z 0 (row_of a j e) + 1) ∷ code (literal_over (fact_at z 1) e.literal) ∷ r) (by (e.literal % 2 == 0) (effects_with (variable_at z 0) (λ f. (f.action == a) && (f.literal == opposite e.literal)) all))
  where
    by : (b : Bool) (ls : List Literal) → (if b then [] else map code ls) ≡ map code (if b then [] else ls)
    by true ls = refl
    by false ls = refl

abbrev of_row : Layout → List Row → Row → List (List Literal)
of_row z all r = meaning_clauses (action_at z 0) (fact_at z 0) (variable_at z 0) r ++ result_clause (fact_at z 1) (variable_at z 0) all r ∷ []

abbrev of_rows : Layout → List Row → List Row → List (List Literal)
of_rows z all rs = effect_clauses (action_at z 0) (fact_at z 0) (fact_at z 1) (variable_at z 0) all rs

-- one more effect
pub effects_step : (z : Layout) (a number next : ℕ) (all : List Row) (es : List Effect) (i : ℕ) (d e : Effect) (whole before after : List (List ℕ)) → i < length es → e ≡ get_or es i d → next ≡ number_after number e
    → whole ≡ before ++ coded (effect_clauses (action_at z 0) (fact_at z 0) (fact_at z 1) (variable_at z 0) all (rows_of a number (drop i es)))
    → after ≡ before ++ coded (meaning_clauses (action_at z 0) (fact_at z 0) (variable_at z 0) (row_of a number e) ++ result_clause (fact_at z 1) (variable_at z 0) all (row_of a number e) ∷ [])
    → whole ≡ after ++ coded (effect_clauses (action_at z 0) (fact_at z 0) (fact_at z 1) (variable_at z 0) all (rows_of a next (drop (i + 1) es)))
effects_step z a number next all es i d e whole before after lt is n h g =
    rest whole before after (coded (of_row z all (row_of a number e))) (coded (of_rows z all (rows_of a (number_after number e) (drop (i + 1) es))))
    (h ∙ ap (λ (rs : List Row). before ++ coded (of_rows z all rs)) (rows_step a number es i d e lt is)
    ∙ ap (λ (r : List (List ℕ)). before ++ r) (coded-append (of_row z all (row_of a number e)) (of_rows z all (rows_of a (number_after number e) (drop (i + 1) es))))) g
    ∙ ap (λ (k : ℕ). after ++ coded (of_rows z all (rows_of a k (drop (i + 1) es)))) (sym n)

-- the clauses of rows in two parts
effect_parts : (z : Layout) (all xs ys : List Row) → effect_clauses (action_at z 0) (fact_at z 0) (fact_at z 1) (variable_at z 0) all (xs ++ ys) ≡ effect_clauses (action_at z 0) (fact_at z 0) (fact_at z 1) (variable_at z 0) all xs ++ effect_clauses (action_at z 0) (fact_at z 0) (fact_at z 1) (variable_at z 0) all ys
effect_parts z all [] ys = refl
effect_parts z all (x ∷ xs) ys =
    ap (λ (r : List (List Literal)). (meaning_clauses (action_at z 0) (fact_at z 0) (variable_at z 0) x ++ result_clause (fact_at z 1) (variable_at z 0) all x ∷ []) ++ r) (effect_parts z all xs ys)
    ∙ sym (joined_twice (meaning_clauses (action_at z 0) (fact_at z 0) (variable_at z 0) x ++ result_clause (fact_at z 1) (variable_at z 0) all x ∷ []) (effect_clauses (action_at z 0) (fact_at z 0) (fact_at z 1) (variable_at z 0) all xs) (effect_clauses (action_at z 0) (fact_at z 0) (fact_at z 1) (variable_at z 0) all ys))

-- the effects that overrule a delete are among its own action's
same_result : (z : Layout) (a j : ℕ) (all own : List Row) (e : Effect) → filter (λ r. (r.effect.action == a) && (r.effect.literal == opposite e.literal)) all ≡ filter (λ r. (r.effect.action == a) && (r.effect.literal == opposite e.literal)) own → result_clause (fact_at z 1) (variable_at z 0) all (row_of a j e) ≡ result_clause (fact_at z 1) (variable_at z 0) own (row_of a j e)
same_result z a j all own e h =
    ap (λ (rs : List Row). Not (variable_at z 0 (row_of a j e)) ∷ literal_over (fact_at z 1) e.literal ∷ (if e.literal % 2 == 0 then [] else map (λ r. Is (variable_at z 0 r)) rs)) h

same_effects : (z : Layout) (a j : ℕ) (all own : List Row) (es : List Effect) → ((l : ℕ) → filter (λ r. (r.effect.action == a) && (r.effect.literal == l)) all ≡ filter (λ r. (r.effect.action == a) && (r.effect.literal == l)) own) → effect_clauses (action_at z 0) (fact_at z 0) (fact_at z 1) (variable_at z 0) all (rows_of a j es) ≡ effect_clauses (action_at z 0) (fact_at z 0) (fact_at z 1) (variable_at z 0) own (rows_of a j es)
same_effects z a j all own [] h = refl
same_effects z a j all own (e ∷ es) h =
    ap (λ (c : List Literal). (meaning_clauses (action_at z 0) (fact_at z 0) (variable_at z 0) (row_of a j e) ++ c ∷ []) ++ effect_clauses (action_at z 0) (fact_at z 0) (fact_at z 1) (variable_at z 0) all (rows_of a (number_after j e) es)) (same_result z a j all own e (h (opposite e.literal)))
    ∙ ap (λ (r : List (List Literal)). (meaning_clauses (action_at z 0) (fact_at z 0) (variable_at z 0) (row_of a j e) ++ result_clause (fact_at z 1) (variable_at z 0) own (row_of a j e) ∷ []) ++ r) (same_effects z a (number_after j e) all own es h)

abbrev none : Action
none = record { precondition = []; effects = [] }

-- one more action's effects
pub actions_step : (z : Layout) (task : Task) (a first next : ℕ) (es : List Effect) (whole before after : List (List ℕ)) → a < length task.actions → es ≡ (action task a).effects → first ≡ conditional_in (take a task.actions) → next ≡ first + count_by is_conditional es
    → whole ≡ before ++ coded (effect_clauses (action_at z 0) (fact_at z 0) (fact_at z 1) (variable_at z 0) (rows task) (rows_from first (effects_from a (drop a task.actions))))
    → after ≡ before ++ coded (effect_clauses (action_at z 0) (fact_at z 0) (fact_at z 1) (variable_at z 0) (rows_of a first es) (rows_of a first es))
    → whole ≡ after ++ coded (effect_clauses (action_at z 0) (fact_at z 0) (fact_at z 1) (variable_at z 0) (rows task) (rows_from next (effects_from (a + 1) (drop (a + 1) task.actions))))
actions_step z task a first next es whole before after lt is f n h g =
    rest whole before after (coded (of_rows z (rows task) (rows_of a first es))) (coded (of_rows z (rows task) (rows_from (first + count_by is_conditional es) (effects_from (a + 1) (drop (a + 1) task.actions)))))
    (h ∙ ap (λ (xs : List Action). before ++ coded (of_rows z (rows task) (rows_from first (effects_from a xs)))) (drop_more task.actions a none lt)
    ∙ ap (λ (ds : List Effect). before ++ coded (of_rows z (rows task) (rows_from first (owned a ds ++ effects_from (a + 1) (drop (a + 1) task.actions))))) (sym is)
    ∙ ap (λ (rs : List Row). before ++ coded (of_rows z (rows task) rs)) (rows_parts a first es (effects_from (a + 1) (drop (a + 1) task.actions)))
    ∙ ap (λ (cs : List (List Literal)). before ++ coded cs) (effect_parts z (rows task) (rows_of a first es) (rows_from (first + count_by is_conditional es) (effects_from (a + 1) (drop (a + 1) task.actions))))
    ∙ ap (λ (r : List (List ℕ)). before ++ r) (coded-append (of_rows z (rows task) (rows_of a first es)) (of_rows z (rows task) (rows_from (first + count_by is_conditional es) (effects_from (a + 1) (drop (a + 1) task.actions))))))
    (g ∙ ap (λ (cs : List (List Literal)). before ++ coded cs) (sym (same_effects z a first (rows task) (rows_of a first es) es own)))
    ∙ ap (λ (k : ℕ). after ++ coded (of_rows z (rows task) (rows_from k (effects_from (a + 1) (drop (a + 1) task.actions))))) (sym n)
  where
    own : (l : ℕ) → filter (λ r. (r.effect.action == a) && (r.effect.literal == l)) (rows task) ≡ filter (λ r. (r.effect.action == a) && (r.effect.literal == l)) (rows_of a first es)
    own l =
        let e : a ≡ 0 + a = omega arith in
        let k : 0 + conditional_in (take a task.actions) ≡ first = omega (arith, f) in
        only_of (λ x. x.literal == l) a 0 a 0 task.actions none lt e
        ∙ ap (λ (j : ℕ). filter (λ r. (r.effect.action == a) && (r.effect.literal == l)) (rows_from j (owned a (get_or task.actions a none).effects))) k
        ∙ ap (λ (ds : List Effect). filter (λ r. (r.effect.action == a) && (r.effect.literal == l)) (rows_from first (owned a ds))) (sym is)

effects_by : (m n : ℕ) (xs ys : List Effect) → m ≡ n → xs ≡ ys → AllByRecursion (EffectWithin n) ys → AllByRecursion (EffectWithin m) xs
effects_by m n xs ys e h a = subst (λ (k : ℕ). AllByRecursion (EffectWithin k) xs) (sym e) (subst (λ (zs : List Effect). AllByRecursion (EffectWithin n) zs) (sym h) a)

-- the effects of an action of a task are within its facts
pub effects_within : (task : Task) (facts a : ℕ) (es : List Effect) (x : Action) → facts ≡ task.facts → x ≡ action task a → es ≡ x.effects → is_task task ≡ true → a < length task.actions
    → AllByRecursion (EffectWithin facts) es
effects_within task facts a es x same is e t lt = effects_by facts task.facts es (action task a).effects same (e ∙ ap (λ (y : Action). y.effects) is) (action_effects_within task a t lt)
