use Rattle.std.specs.Prelude.{ℕ, ◌+◌, ◌*◌, ◌==◌, List, [], ◌∷◌, Bool, true, false, not, ◌&&◌, ◌||◌, nat_lt, nat_le, length, count_by, sum_by, Option, Some, None}
use Rattle.std.specs.List.{list_all}
use Rattle.gt_core.specs.Task.{Effect, Action, Task}
use Rattle.gt_core.specs.Limits.{race_limits, wide_limits}
use Rattle.gt_core.specs.declared.limits.Limits.{Limits}

-- literals that are at least `low` and below `top`, strictly rising
abbrev pub are_rising : ℕ → ℕ → List ℕ → Bool
are_rising top low [] = true
are_rising top low (l ∷ ls) = nat_le low l && (nat_lt l top && are_rising top (l + 1) ls)

-- a set of literals of so many facts: sorted, without repeats, in range
abbrev pub is_literal_set : ℕ → List ℕ → Bool
is_literal_set facts ls = are_rising (2 * facts) 0 ls

-- lists by their first difference, a prefix first
abbrev pub list_less : List ℕ → List ℕ → Bool
list_less [] [] = false
list_less [] (y ∷ ys) = true
list_less (x ∷ xs) [] = false
list_less (x ∷ xs) (y ∷ ys) = nat_lt x y || ((x == y) && list_less xs ys)

-- effects by literal, then by condition as a list
abbrev pub effect_less : Effect → Effect → Bool
effect_less d e = nat_lt d.literal e.literal || ((d.literal == e.literal) && list_less d.condition e.condition)

-- an effect may come next
abbrev pub follows : Option Effect → Effect → Bool
follows None e = true
follows (Some d) e = effect_less d e

-- effects over so many facts, strictly rising after the last one
abbrev pub are_effects : ℕ → Option Effect → List Effect → Bool
are_effects facts last [] = true
are_effects facts last (e ∷ es) = follows last e && (nat_lt e.literal (2 * facts) && (is_literal_set facts e.condition && are_effects facts (Some e) es))

-- an action's literals are in range, sorted and without repeats, and so are its effects
abbrev pub is_action : ℕ → Action → Bool
is_action facts a = is_literal_set facts a.precondition && are_effects facts None a.effects

-- an effect has a condition
abbrev pub is_conditional : Effect → Bool
is_conditional e = not (length e.condition == 0)

-- how many effects of the actions have a condition
abbrev pub conditional_in : List Action → ℕ
conditional_in actions = sum_by (λ a. count_by is_conditional a.effects) actions

-- the limits, one truth value a fact, and literals that are in range and sorted
abbrev pub is_within : Limits → Task → Bool
is_within limits task =
    nat_le task.facts limits.facts
    && (nat_le (length task.actions) limits.actions
    && (nat_le (conditional_in task.actions) limits.conditional
    && ((length task.initial == task.facts)
    && (is_literal_set task.facts task.goal
    && list_all (is_action task.facts) task.actions))))

-- what each task keeps that is encoded
abbrev pub is_task : Task → Bool
is_task task = is_within race_limits task

-- what each task keeps that is searched state by state
abbrev pub is_wide : Task → Bool
is_wide task = is_within wide_limits task
