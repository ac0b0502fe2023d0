use Rattle.std.proofs.Common.{arith, ◌≡◌, ◌==◌, ℕ, ◌+◌, ◌-◌, ◌*◌, ◌/◌, ◌%◌, ◌<◌, ◌≤◌, List, [], ◌∷◌, ◌++◌, length, take, drop, get_or, Bool, true, false, not, ◌&&◌, ◌||◌, refl, sym, ap, ◌∙◌, subst, if◌then◌else◌, count_by, None, Some, length-drop}
use Rattle.std.specs.Prelude.{sum_by}
use Rattle.std.specs.List.{list_all}
use Rattle.gt_core.specs.Literal.{opposite}
use Rattle.std.proofs.lemmas.List.{drop_more, take-append-drop}
use Rattle.std.proofs.lemmas.List.Sums.{sum_by-cons, sum_by-append}
use Rattle.gt_core.specs.Task.{Action, Effect, Task}
use Rattle.gt_core.specs.Lawful.{is_action, is_literal_set, are_effects, is_conditional, conditional_in, is_task}
use Rattle.gt_core.proofs.published.Basics.{all_at, and_split}
use Rattle.gt_core.proofs.published.Within.{lawful, among_at}
use Rattle.step_formula.specs.own.Sizes.{effect_size, effects_size, effects_in, preconditions_size, meaning_size, result_size, has_both, adds_of, adds_surely}
use Rattle.formula_defs.proofs.published.Sorted.{effects_of_action, effects_few, set_few, condition_at, rest_sorted}
use Rattle.step_formula.proofs.Few.{task_few}
use Rattle.step_formula.proofs.EffectsSize.{prefix_sorted}
use Rattle.step_formula.proofs.ResultSize.{IsSplit, counts_before}
use Rattle.gt_core.specs.Limits.{most_facts, most_conditional}

-- Walks along lists of actions and of effects.

at_index : {A : Type 0} (xs items : List A) (i : ℕ) (d x : A) → items ≡ xs → i < length items → x ≡ get_or items i d → drop i xs ≡ x ∷ drop (i + 1) xs
at_index xs items i d x e lt is = drop_more xs i d (subst (λ ys. i < length ys) e lt) ∙ ap (λ y. y ∷ drop (i + 1) xs) (ap (λ ys. get_or ys i d) (sym e) ∙ sym is)

sum_next : (f : Action → ℕ) (acts items : List Action) (i : ℕ) (d x : Action) → items ≡ acts → i < length items → x ≡ get_or items i d → sum_by f (drop i acts) ≡ f x + sum_by f (drop (i + 1) acts)
sum_next f acts items i d x e lt is = ap (sum_by f) (at_index acts items i d x e lt is) ∙ sum_by-cons f x (drop (i + 1) acts)

-- the action at a place is lawful
pub action_at_place : (task : Task) (items : List Action) (i : ℕ) (d x : Action) → is_task task ≡ true → items ≡ task.actions → i < length items → x ≡ get_or items i d → is_action task.facts x ≡ true
action_at_place task items i d x t e lt is =
    let l : list_all (is_action task.facts) items ≡ true = ap (list_all (is_action task.facts)) e ∙ (lawful task t).each in
    ap (is_action task.facts) is ∙ all_at (is_action task.facts) items (get_or items i d) l (among_at items i d lt)

conditional_left : (acts items : List Action) (i : ℕ) (d x : Action) → items ≡ acts → i < length items → x ≡ get_or items i d → conditional_in (drop i acts) ≡ count_by is_conditional x.effects + conditional_in (drop (i + 1) acts)
conditional_left acts items i d x e lt is = sum_next (λ a. count_by is_conditional a.effects) acts items i d x e lt is

drop_few : (f : Action → ℕ) (acts : List Action) (i : ℕ) → sum_by f (drop i acts) ≤ sum_by f acts
drop_few f acts i =
    let a = sum_by-append f (take i acts) (drop i acts) in
    let b = ap (sum_by f) (take-append-drop i acts) in
    omega (arith, a, b)

module _ (task : Task) (t : is_task task ≡ true) (items : List Action) (i : ℕ) (d x : Action) (e : items ≡ task.actions) (lt : i < length items) (is : x ≡ get_or items i d) where
  facts_few : task.facts ≤ most_facts
  facts_few = (lawful task t).facts

  pub preconditions_next : (pre : List ℕ) (size : ℕ) → pre ≡ x.precondition → preconditions_size task.actions ≡ size + preconditions_size (drop i task.actions) → size ≤ 8192 * i
      → (preconditions_size task.actions ≡ size + 2 * length pre + preconditions_size (drop (i + 1) task.actions)) × (size + 2 * length pre ≤ 8192 * (i + 1))
  preconditions_next pre size p h b =
      let s = sum_next (λ (y : Action). 2 * length y.precondition) task.actions items i d x e lt is in
      let n = ap length p in
      let f = set_few task.facts x.precondition (and_split (is_literal_set task.facts x.precondition) _ (action_at_place task items i d x t e lt is)).0 in
      let k = facts_few in
      (omega (arith, s, n, h), omega (arith, n, f, k, b))

  own_few : length x.effects ≤ 4096 + count_by is_conditional x.effects
  own_few = let f = effects_few task.facts x.effects (effects_of_action task.facts x (action_at_place task items i d x t e lt is)) in let k = facts_few in omega (arith, f, k)

  pub own_conditional : count_by is_conditional x.effects ≤ most_conditional
  own_conditional =
      let c = conditional_left task.actions items i d x e lt is in
      let f = drop_few (λ (a : Action). count_by is_conditional a.effects) task.actions i in
      let l = (lawful task t).conditional in
      omega (arith, c, f, l)

  pub count_next : (es : List Effect) (count : ℕ) → es ≡ x.effects → effects_in task.actions ≡ count + effects_in (drop i task.actions) → count + conditional_in (drop i task.actions) ≤ 4096 * i + conditional_in task.actions
      → (effects_in task.actions ≡ count + length es + effects_in (drop (i + 1) task.actions)) × (count + length es + conditional_in (drop (i + 1) task.actions) ≤ 4096 * (i + 1) + conditional_in task.actions)
  count_next es count p h b =
      let s = sum_next (λ (y : Action). length y.effects) task.actions items i d x e lt is in
      let c = conditional_left task.actions items i d x e lt is in
      let n = ap length p in
      let f = own_few in
      (omega (arith, s, n, h), omega (arith, n, f, c, b))

  pub effects_next : (es : List Effect) (size one : ℕ) → es ≡ x.effects → one ≡ effects_size es → one ≤ 131072 * length es → sum_by (λ y. effects_size y.effects) task.actions ≡ size + sum_by (λ y. effects_size y.effects) (drop i task.actions) → size + 131072 * effects_in (drop i task.actions) ≤ 131072 * effects_in task.actions
      → (sum_by (λ y. effects_size y.effects) task.actions ≡ size + one + sum_by (λ y. effects_size y.effects) (drop (i + 1) task.actions)) × (size + one + 131072 * effects_in (drop (i + 1) task.actions) ≤ 131072 * effects_in task.actions)
  effects_next es size one p o few h b =
      let s = sum_next (λ (y : Action). effects_size y.effects) task.actions items i d x e lt is in
      let c = sum_next (λ (y : Action). length y.effects) task.actions items i d x e lt is in
      let n = ap length p in
      let o2 = o ∙ ap effects_size p in
      (omega (arith, s, o2, h), omega (arith, few, n, c, b))

  pub effects_fit : (es : List Effect) (size one : ℕ) → es ≡ x.effects → one ≤ 131072 * length es → size + 131072 * effects_in (drop i task.actions) ≤ 131072 * effects_in task.actions → size + one ≤ 8804682956800
  effects_fit es size one p few b =
      let c = sum_next (λ (y : Action). length y.effects) task.actions items i d x e lt is in
      let n = ap length p in
      let f = task_few task t in
      omega (arith, few, n, c, b, f)

pub effects_done : (task : Task) (i size : ℕ) → is_task task ≡ true → size + 131072 * effects_in (drop i task.actions) ≤ 131072 * effects_in task.actions → size ≤ 8804682956800
effects_done task i size t b = let f = task_few task t in omega (arith, b, f)

-- neighbours in a list
pub both_next : (ls : List ℕ) (p : ℕ) → 1 ≤ p → p < length ls → has_both (drop (p - 1) ls) ≡ ((get_or ls (p - 1) 0 / 2 == get_or ls p 0 / 2) || has_both (drop p ls))
both_next ls p one lt =
    let a = drop_more ls (p - 1) 0 (omega (arith, lt)) in
    let n : p - 1 + 1 ≡ p = omega (arith, one) in
    let b = drop_more ls p 0 lt in
    ap has_both (a ∙ ap (λ (k : ℕ). get_or ls (p - 1) 0 ∷ drop k ls) n ∙ ap (λ (xs : List ℕ). get_or ls (p - 1) 0 ∷ xs) b)
    ∙ ap (λ (xs : List ℕ). (get_or ls (p - 1) 0 / 2 == get_or ls p 0 / 2) || has_both xs) (sym b)

pub both_none : (ls : List ℕ) (p : ℕ) → length ls ≤ p → has_both (drop (p - 1) ls) ≡ false
both_none ls p le = short (drop (p - 1) ls) (let d = length-drop (p - 1) ls in omega (arith, d, le))
  where
    short : (xs : List ℕ) → length xs ≤ 1 → has_both xs ≡ false
    short [] l = refl
    short (x ∷ []) l = refl
    short (x ∷ y ∷ xs) l = absurd (omega (arith, l))

-- one more effect
pub effect_next : (es items : List Effect) (i : ℕ) (d e : Effect) (size meaning result : ℕ) → items ≡ es → i < length items → e ≡ get_or items i d → meaning ≡ meaning_size e → result ≡ result_size (adds_of es (opposite e.literal)) (adds_surely es (opposite e.literal)) e
    → sum_by (effect_size es) es ≡ size + sum_by (effect_size es) (drop i es) → sum_by (effect_size es) es ≡ size + (meaning + result) + sum_by (effect_size es) (drop (i + 1) es)
effect_next es items i d e size meaning result q lt is m r h =
    let s = ap (sum_by (effect_size es)) (at_index es items i d e q lt is) ∙ sum_by-cons (effect_size es) e (drop (i + 1) es) in
    omega (arith, s, m, r, h)

pub condition_few : (facts : ℕ) (es : List Effect) (i : ℕ) (d e : Effect) → facts ≤ most_facts → are_effects facts None es ≡ true → i < length es → e ≡ get_or es i d → length e.condition ≤ 4096
condition_few facts es i d e le s lt is =
    let f = set_few facts (get_or es i d).condition (condition_at facts None es i d s lt) in
    let n = ap (λ (x : Effect). length x.condition) is in
    omega (arith, f, n, le)

pub split_at : (facts : ℕ) (es : List Effect) (i : ℕ) (d e : Effect) → are_effects facts None es ≡ true → i < length es → e ≡ get_or es i d → IsSplit facts es (take i es) e (drop (i + 1) es)
split_at facts es i d e s lt is =
    let whole : es ≡ take i es ++ e ∷ drop (i + 1) es = sym (take-append-drop i es) ∙ ap (λ (xs : List Effect). take i es ++ xs) (at_index es es i d e refl lt is) in
    record {
      whole = whole;
      sorted = s;
      before_sorted = prefix_sorted facts None (take i es) (e ∷ drop (i + 1) es) (subst (λ (xs : List Effect). are_effects facts None xs ≡ true) whole s);
      after_sorted = subst (λ (x : Effect). are_effects facts (Some x) (drop (i + 1) es) ≡ true) (sym is) (rest_sorted facts None es i d s lt);
    }

pub result_whole : (facts : ℕ) (es : List Effect) (i : ℕ) (e : Effect) → IsSplit facts es (take i es) e (drop (i + 1) es) → result_size (adds_of (take i es) (opposite e.literal)) (adds_surely (take i es) (opposite e.literal)) e ≡ result_size (adds_of es (opposite e.literal)) (adds_surely es (opposite e.literal)) e
result_whole facts es i e p = by (e.literal % 2 == 0) refl
  where
    by : (b : Bool) → (e.literal % 2 == 0) ≡ b → (if b then 2 else if adds_surely (take i es) (opposite e.literal) && not (is_conditional e) then 0 else 2 + adds_of (take i es) (opposite e.literal)) ≡ (if b then 2 else if adds_surely es (opposite e.literal) && not (is_conditional e) then 0 else 2 + adds_of es (opposite e.literal))
    by true t = refl
    by false t =
        let c = counts_before facts es (take i es) e (drop (i + 1) es) p t in
        ap (λ (k : ℕ). if adds_surely (take i es) (opposite e.literal) && not (is_conditional e) then 0 else 2 + k) (sym c.0)
        ∙ ap (λ (b : Bool). if b && not (is_conditional e) then 0 else 2 + adds_of es (opposite e.literal)) (sym c.1)
