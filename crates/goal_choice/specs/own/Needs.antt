-- What has to hold before effects, by the variables of the first step.
use Rattle.std.specs.Prelude.{ℕ, List, [], ◌++◌, map, slice_index_or}
use Rattle.std.specs.List.{filter, flat_map}
use Rattle.gt_core.specs.Task.{Action, Task}
use Rattle.gt_core.specs.Lawful.{is_conditional}
use Rattle.goal_choice.specs.Means.{Supporter}

-- for each conditional effect of an action, what has to hold before it
abbrev pub needs_in : Action → List (List ℕ)
needs_in a = map (λ e. a.precondition ++ e.condition) (filter is_conditional a.effects)

-- for each variable of the first step that is not a chain variable, what has to hold before its effects
abbrev pub needs_of : Task → List (List ℕ)
needs_of task = map (λ a. a.precondition) task.actions ++ flat_map needs_in task.actions

-- the supporter with a variable
abbrev pub supporter_in : List (List ℕ) → ℕ → Supporter
supporter_in needs v = record { variable = v; needs = slice_index_or needs v [] }

-- the supporters with these variables
abbrev pub supporters_in : List (List ℕ) → List (List ℕ) → List (List Supporter)
supporters_in needs lists = map (map (supporter_in needs)) lists
