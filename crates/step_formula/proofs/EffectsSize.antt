use Rattle.std.proofs.Common.{arith, ◌≡◌, ℕ, zero, suc, ◌+◌, ◌*◌, ◌<◌, ◌≤◌, List, [], ◌∷◌, ◌++◌, length, take, drop, Bool, true, false, refl, sym, ap, ◌∙◌, subst, if◌then◌else◌, cond, count_by, Option, Some, None}
use Rattle.std.specs.Prelude.{sum_by}
use Rattle.std.proofs.lemmas.List.{append_assoc, drop_more, drop_all}
use Rattle.std.proofs.lemmas.List.Sums.{sum_by-cons, sum_by-append}
use Rattle.gt_core.specs.Task.{Task, Action, Effect, action, effects_from}
use Rattle.gt_core.specs.Lawful.{is_conditional, is_literal_set, are_effects, conditional_in, is_task}
use Rattle.formula_defs.specs.Layout.{Layout, action_at, fact_at}
use Rattle.gt_core.proofs.published.Basics.{and_both}
use Rattle.std.proofs.Common.{nat_lt}
use Rattle.std.proofs.lemmas.Bool.Decides.{nat_tests}
use Rattle.gt_core.specs.Lawful.{follows}
use Rattle.gt_core.proofs.published.Within.{action_lawful}
use Rattle.formula_defs.specs.Clause.{Literal}
use Rattle.formula_defs.specs.Variables.{Row, rows, rows_from, variable_at}
use Rattle.formula_defs.specs.Formula.{effect_clauses, meaning_clauses, result_clause}
use Rattle.formula_defs.specs.Coded.{coded, literals_in}
use Rattle.formula_defs.proofs.published.SizeLaw.{size_append, literals_append}
use Rattle.step_formula.specs.Rows.{row_of, rows_of, number_after}
use Rattle.step_formula.proofs.EffectLaw.{actions_step}
use Rattle.step_formula.proofs.RowLaw.{conditional_taken, taken_and_left}
use Rattle.step_formula.specs.own.Sizes.{effect_size, effects_size}
use Rattle.formula_defs.proofs.published.Sorted.{parts, effects_of_action}
use Rattle.step_formula.proofs.MeaningSize.{meaning_literals}
use Rattle.step_formula.proofs.ResultSize.{IsSplit, result_literals}

-- How many literals the clauses of all effects have.

pub prefix_sorted : (facts : ℕ) (last : Option Effect) (xs ys : List Effect) → are_effects facts last (xs ++ ys) ≡ true → are_effects facts last xs ≡ true
prefix_sorted facts last [] ys h = refl
prefix_sorted facts last (x ∷ xs) ys h =
    let p = parts facts last x (xs ++ ys) h in
    let below : nat_lt x.literal (2 * facts) ≡ true = let lt = p.below in grind (arith, nat_tests) in
    and_both (follows last x) _ p.follows (and_both (nat_lt x.literal (2 * facts)) _ below (and_both (is_literal_set facts x.condition) _ p.condition (prefix_sorted facts (Some x) xs ys p.rest)))

suffix_sorted : (facts : ℕ) (last : Option Effect) (xs : List Effect) (e : Effect) (after : List Effect) → are_effects facts last (xs ++ e ∷ after) ≡ true → are_effects facts (Some e) after ≡ true
suffix_sorted facts last [] e after h = (parts facts last e after h).rest
suffix_sorted facts last (x ∷ xs) e after h = suffix_sorted facts (Some x) xs e after (parts facts last x (xs ++ e ∷ after) h).rest

condition_of : (facts : ℕ) (last : Option Effect) (xs : List Effect) (e : Effect) (after : List Effect) → are_effects facts last (xs ++ e ∷ after) ≡ true → is_literal_set facts e.condition ≡ true
condition_of facts last [] e after h = (parts facts last e after h).condition
condition_of facts last (x ∷ xs) e after h = condition_of facts (Some x) xs e after (parts facts last x (xs ++ e ∷ after) h).rest

module _ (z : Layout) (h1 : z.horizon ≡ 1) where
  abbrev of_rows : List Row → List Row → List (List Literal)
  of_rows all rs = effect_clauses (action_at z 0) (fact_at z 0) (fact_at z 1) (variable_at z 0) all rs

  -- the effects of an action from one on
  walk : (a first facts : ℕ) (es before ys : List Effect) → a < z.actions → es ≡ before ++ ys → are_effects facts None es ≡ true → first + count_by is_conditional es ≤ z.conditional
      → literals_in (coded (of_rows (rows_of a first es) (rows_of a (first + count_by is_conditional before) ys))) ≡ sum_by (effect_size es) ys
  walk a first facts es before [] la w s few = refl
  walk a first facts es before (e ∷ after) la w s few =
      let sorted : are_effects facts None (before ++ e ∷ after) ≡ true = subst (λ (xs : List Effect). are_effects facts None xs ≡ true) w s in
      let p : IsSplit facts es before e after = record { whole = w; sorted = s; before_sorted = prefix_sorted facts None before (e ∷ after) sorted; after_sorted = suffix_sorted facts None before e after sorted } in
      let number = first + count_by is_conditional before in
      let counted : first + count_by is_conditional before + count_by is_conditional (e ∷ after) ≤ z.conditional =
      let x = sum_by-append (λ (f : Effect). cond (is_conditional f) 1 0) before (e ∷ after) in
      let c = ap (count_by is_conditional) w in
      omega (arith, x, c, few) in
      let below : is_conditional e ≡ true → number < z.conditional = λ t.
      let x = sum_by-cons (λ f. cond (is_conditional f) 1 0) e after in
      let v = ap {B = ℕ} (λ (b : Bool). cond b 1 0) t in
      omega (arith, x, v, counted) in
      let m = meaning_literals z a number facts e h1 la below (condition_of facts None before e after sorted) in
      let r = result_literals z a number first facts es before e after h1 la p refl few in
      let here = size_append (meaning_clauses (action_at z 0) (fact_at z 0) (variable_at z 0) (row_of a number e)) (result_clause (fact_at z 1) (variable_at z 0) (rows_of a first es) (row_of a number e) ∷ []) in
      let next : number_after number e ≡ first + count_by is_conditional (before ++ e ∷ []) = after_number (is_conditional e) refl in
      let rest = ap (λ (k : ℕ). literals_in (coded (of_rows (rows_of a first es) (rows_of a k after)))) next ∙ walk a first facts es (before ++ e ∷ []) after la (w ∙ sym (append_assoc before (e ∷ []) after)) s few in
      let both = size_append (meaning_clauses (action_at z 0) (fact_at z 0) (variable_at z 0) (row_of a number e) ++ result_clause (fact_at z 1) (variable_at z 0) (rows_of a first es) (row_of a number e) ∷ []) (of_rows (rows_of a first es) (rows_of a (number_after number e) after)) in
      let sum = sum_by-cons (effect_size es) e after in
      omega (arith, m, r, here, rest, both, sum)
    where
      after_number : (b : Bool) → is_conditional e ≡ b → (if b then first + count_by is_conditional before + 1 else first + count_by is_conditional before) ≡ first + count_by is_conditional (before ++ e ∷ [])
      after_number true t =
          let x = sum_by-append (λ (f : Effect). cond (is_conditional f) 1 0) before (e ∷ []) in
          let y = sum_by-cons (λ (f : Effect). cond (is_conditional f) 1 0) e [] in
          let v = ap {B = ℕ} (λ (b : Bool). cond b 1 0) t in
          omega (arith, x, y, v)
      after_number false t =
          let x = sum_by-append (λ (f : Effect). cond (is_conditional f) 1 0) before (e ∷ []) in
          let y = sum_by-cons (λ (f : Effect). cond (is_conditional f) 1 0) e [] in
          let v = ap {B = ℕ} (λ (b : Bool). cond b 1 0) t in
          omega (arith, x, y, v)

  of_action : (a first facts : ℕ) (es : List Effect) → a < z.actions → are_effects facts None es ≡ true → first + count_by is_conditional es ≤ z.conditional
      → literals_in (coded (of_rows (rows_of a first es) (rows_of a first es))) ≡ effects_size es
  of_action a first facts es la s few =
      let k : first ≡ first + 0 = omega arith in
      ap (λ (n : ℕ). literals_in (coded (of_rows (rows_of a first es) (rows_of a n es)))) k ∙ walk a first facts es [] es la refl s few

  module _ (task : Task) (t : is_task task ≡ true) (actions : z.actions ≡ length task.actions) (conditional : z.conditional ≡ conditional_in task.actions) where
    abbrev nothing : Action
    nothing = record { precondition = []; effects = [] }

    abbrev from : ℕ → List (List Literal)
    from a = of_rows (rows task) (rows_from (conditional_in (take a task.actions)) (effects_from a (drop a task.actions)))

    -- the effects of the actions from one on
    from_action : (n a : ℕ) → a + n ≡ length task.actions → literals_in (coded (from a)) ≡ sum_by (λ x. effects_size x.effects) (drop a task.actions)
    from_action zero a e =
        let d = drop_all a task.actions (omega (arith, e)) in
        ap (λ (xs : List Action). literals_in (coded (of_rows (rows task) (rows_from (conditional_in (take a task.actions)) (effects_from a xs))))) d
        ∙ sym (ap (sum_by (λ (x : Action). effects_size x.effects)) d)
    from_action (suc n) a e =
        let lt : a < length task.actions = omega (arith, e) in
        let es = (action task a).effects in
        let first = conditional_in (take a task.actions) in
        let taken = conditional_taken task.actions a nothing lt in
        let next : conditional_in (take (a + 1) task.actions) ≡ first + count_by is_conditional es = taken in
        let left = taken_and_left task.actions (a + 1) in
        let few : first + count_by is_conditional es ≤ z.conditional = omega (arith, taken, left, conditional) in
        let own = of_action a first task.facts es (omega (arith, lt, actions)) (effects_of_action task.facts (action task a) (action_lawful task a t lt)) few in
        let parted = actions_step z task a first (conditional_in (take (a + 1) task.actions)) es (coded (from a)) [] (coded (of_rows (rows_of a first es) (rows_of a first es))) lt refl refl next refl refl in
        let sizes = ap literals_in parted ∙ literals_append (coded (of_rows (rows_of a first es) (rows_of a first es))) (coded (from (a + 1))) in
        let rest = from_action n (a + 1) (omega (arith, e)) in
        let d = ap (sum_by (λ (x : Action). effects_size x.effects)) (drop_more task.actions a nothing lt) in
        let s = sum_by-cons (λ (x : Action). effects_size x.effects) (action task a) (drop (a + 1) task.actions) in
        omega (arith, sizes, own, rest, d, s)

    pub effects_literals : literals_in (coded (of_rows (rows task) (rows task))) ≡ sum_by (λ x. effects_size x.effects) task.actions
    effects_literals = from_action (length task.actions) 0 (omega arith)
