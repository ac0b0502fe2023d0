use Rattle.std.proofs.Common.{arith, ◌≡◌, ℕ, ◌+◌, ◌*◌, ◌≤◌, List, [], ◌∷◌, length, true, count_by}
use Rattle.std.specs.List.{list_all}
use Rattle.std.proofs.lemmas.List.Sums.{sum_by-cons}
use Rattle.gt_core.specs.Task.{Action, Task}
use Rattle.gt_core.specs.Lawful.{is_action, is_conditional, conditional_in, is_task}
use Rattle.gt_core.proofs.published.Basics.{and_split}
use Rattle.gt_core.proofs.published.Within.{lawful}
use Rattle.formula_defs.proofs.published.Sorted.{effects_few, effects_of_action}
use Rattle.step_formula.specs.own.Sizes.{effects_in}
use Rattle.gt_core.specs.Limits.{most_facts}

-- How many effects a task has.

actions_few : (facts : ℕ) (xs : List Action) → facts ≤ most_facts → list_all (is_action facts) xs ≡ true → effects_in xs ≤ 4096 * length xs + conditional_in xs
actions_few facts [] le h = omega arith
actions_few facts (x ∷ xs) le h =
    let p = and_split (is_action facts x) _ h in
    let f = effects_few facts x.effects (effects_of_action facts x p.0) in
    let r = actions_few facts xs le p.1 in
    let s = sum_by-cons (λ (y : Action). length y.effects) x xs in
    let c = sum_by-cons (λ (y : Action). count_by is_conditional y.effects) x xs in
    omega (arith, le, f, r, s, c)

-- so a task has at most 67,174,400 effects
pub task_few : (task : Task) → is_task task ≡ true → effects_in task.actions ≤ 67174400
task_few task t =
    let l = lawful task t in
    let f = actions_few task.facts task.actions l.facts l.each in
    let a = l.actions in
    let c = l.conditional in
    omega (arith, f, a, c)
