use Rattle.std.proofs.Common.{arith, ◌≡◌, ℕ, ◌+◌, List, [], ◌∷◌, ◌++◌, length, Bool, true, false, refl, if◌then◌else◌}
use Rattle.std.specs.Prelude.{cond, count_by}
use Rattle.std.specs.List.{filter}
use Rattle.std.proofs.lemmas.List.Sums.{sum_by-cons}
use Rattle.gt_core.specs.Task.{Task, Effect, Action, EffectOf, owned, effects_from, effects}
use Rattle.gt_core.specs.Lawful.{is_conditional, conditional_in}
use Rattle.formula_defs.specs.Variables.{has_condition}

-- How many conditional effects a task has.

one_more : (e : EffectOf) (es : List EffectOf) (b : Bool) → length (if b then e ∷ es else es) ≡ cond b 1 0 + length es
one_more e es true = omega arith
one_more e es false = omega arith

filtered_parts : (es ds : List EffectOf) → length (filter has_condition (es ++ ds)) ≡ length (filter has_condition es) + length (filter has_condition ds)
filtered_parts [] ds = omega arith
filtered_parts (e ∷ es) ds =
    let a = one_more e (filter has_condition (es ++ ds)) (has_condition e) in
    let b = one_more e (filter has_condition es) (has_condition e) in
    let h = filtered_parts es ds in
    omega arith

count_owned : (a : ℕ) (es : List Effect) → length (filter has_condition (owned a es)) ≡ count_by is_conditional es
count_owned a [] = refl
count_owned a (e ∷ es) =
    let x = one_more (record { action = a; condition = e.condition; literal = e.literal }) (filter has_condition (owned a es)) (is_conditional e) in
    let y = sum_by-cons (λ d. cond (is_conditional d) 1 0) e es in
    let h = count_owned a es in
    omega arith

count_from : (a : ℕ) (xs : List Action) → length (filter has_condition (effects_from a xs)) ≡ conditional_in xs
count_from a [] = refl
count_from a (x ∷ xs) =
    let p = filtered_parts (owned a x.effects) (effects_from (a + 1) xs) in
    let y = sum_by-cons (λ d. count_by is_conditional d.effects) x xs in
    let h = count_owned a x.effects in
    let k = count_from (a + 1) xs in
    omega arith

-- the conditional ones among all effects are as many as those of the actions
pub conditional_count : (task : Task) → length (filter has_condition (effects task)) ≡ conditional_in task.actions
conditional_count task = count_from 0 task.actions
