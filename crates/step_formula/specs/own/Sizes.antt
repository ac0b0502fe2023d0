-- How many literals the clauses of one step have, but for those of chains, by arithmetic over the task.
use Rattle.std.specs.Prelude.{ℕ, ◌+◌, ◌*◌, ◌/◌, ◌%◌, ◌==◌, List, [], ◌∷◌, Bool, false, not, ◌&&◌, ◌||◌, if◌then◌else◌, length, sum_by, count_by}
use Rattle.std.specs.List.{list_any}
use Rattle.gt_core.specs.Literal.{opposite}
use Rattle.gt_core.specs.Task.{Task, Action, Effect}
use Rattle.gt_core.specs.Lawful.{is_conditional}

-- a sorted list has both literals of a fact, which are then neighbours
abbrev pub has_both : List ℕ → Bool
has_both [] = false
has_both (l ∷ []) = false
has_both (l ∷ m ∷ ls) = (l / 2 == m / 2) || has_both (m ∷ ls)

-- the clauses that say what a conditional effect's variable means: its action is in the step, each literal of the
-- condition holds, and both together make it true; the last one is left out where the condition contradicts itself
abbrev pub meaning_size : Effect → ℕ
meaning_size e =
    if is_conditional e
    then 2 + 2 * length e.condition + (if has_both e.condition then 0 else 2 + length e.condition)
    else 0

-- the clause of what an effect makes true, with the variables of so many adds beside a delete; it is left out where
-- the action surely does both
abbrev pub result_size : (adds : ℕ) → (sure : Bool) → Effect → ℕ
result_size adds sure e = if e.literal % 2 == 0 then 2 else if sure && not (is_conditional e) then 0 else 2 + adds

-- how many of an action's effects have a literal, and whether one of these has no condition
abbrev pub adds_of : List Effect → ℕ → ℕ
adds_of es l = count_by (λ d. d.literal == l) es

-- an effect without condition has this literal
abbrev pub adds_surely : List Effect → ℕ → Bool
adds_surely es l = list_any (λ d. (d.literal == l) && not (is_conditional d)) es

-- the clauses of one effect among those of its action
abbrev pub effect_size : List Effect → Effect → ℕ
effect_size es e = meaning_size e + result_size (adds_of es (opposite e.literal)) (adds_surely es (opposite e.literal)) e

-- the clauses of all effects of an action
abbrev pub effects_size : List Effect → ℕ
effects_size es = sum_by (effect_size es) es

-- two literals for each literal of a precondition
abbrev pub preconditions_size : List Action → ℕ
preconditions_size xs = sum_by (λ x. 2 * length x.precondition) xs

-- how many effects the actions have
abbrev pub effects_in : List Action → ℕ
effects_in xs = sum_by (λ x. length x.effects) xs

-- two clauses of two literals for each fact, and one literal more for each effect
abbrev pub frames_size : Task → ℕ
frames_size task = 4 * task.facts + effects_in task.actions

-- the clauses of one step, but for those of chains
abbrev pub size_without_chains : Task → ℕ
size_without_chains task =
    preconditions_size task.actions + (sum_by (λ x. effects_size x.effects) task.actions + frames_size task)
