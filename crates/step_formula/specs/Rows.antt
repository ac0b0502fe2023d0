use Rattle.std.specs.Prelude.{◌≡◌, ℕ, ◌+◌, ◌*◌, ◌<◌, ◌≤◌, ◌==◌, List, ◌∷◌, [], ◌++◌, true, ◌&&◌, if◌then◌else◌, map, length, count_by, slice_index_or}
use Rattle.std.specs.List.{AllByRecursion}
use Rattle.gt_core.specs.Task.{Task, Effect, owned}
use Rattle.gt_core.specs.Active.{EffectWithin}
use Rattle.gt_core.specs.Lawful.{is_conditional, conditional_in}
use Rattle.formula_defs.specs.Layout.{Layout, action_at, fact_at}
use Rattle.formula_defs.specs.Clause.{Literal, code}
use Rattle.formula_defs.specs.Variables.{Row, rows, rows_from, variable_at}
use Rattle.formula_defs.specs.Formula.{effects_with, meaning_clauses, result_clause, effect_clauses}
use Rattle.gt_core.specs.Limits.{most_conditional}

-- an effect of an action, with the number that it has where it is conditional
abbrev pub row_of : ℕ → ℕ → Effect → Row
row_of a j e = record { effect = record { action = a; condition = e.condition; literal = e.literal }; number = j }

-- the effects of an action, the first conditional one of which has a number
abbrev pub rows_of : ℕ → ℕ → List Effect → List Row
rows_of a j es = rows_from j (owned a es)

-- the number after an effect
abbrev pub number_after : ℕ → Effect → ℕ
number_after j e = if is_conditional e then j + 1 else j

-- a layout has a place for each action, conditional effect and fact of a task, and a step
pub record IsLaidOut (z : Layout) (task : Task) : Type 0 where
  pub horizon : 0 < z.horizon
  pub actions : z.actions ≡ length task.actions
  pub conditional : z.conditional ≡ conditional_in task.actions
  pub facts : z.facts ≡ task.facts

-- an effect has its place in a layout: there is a step, and its action, its number and its facts are the layout's
pub record IsPlaced (z : Layout) (a j : ℕ) (e : Effect) : Type 0 where
  pub horizon : 0 < z.horizon
  pub action : a < z.actions
  pub number : is_conditional e ≡ true → j < z.conditional
  pub within : EffectWithin z.facts e

-- and so has each effect of an action, of which the first conditional one has a number
pub record ArePlaced (z : Layout) (a first : ℕ) (es : List Effect) : Type 0 where
  pub horizon : 0 < z.horizon
  pub action : a < z.actions
  pub numbers : first + count_by is_conditional es ≤ z.conditional
  pub few : z.conditional ≤ most_conditional
  pub within : AllByRecursion (EffectWithin z.facts) es

-- the codes of the variables in the first step of an action's effects with a literal
abbrev pub made_by : Layout → ℕ → ℕ → List Row → List ℕ
made_by z a l rs = map code (effects_with (variable_at z 0) (λ e. (e.action == a) && (e.literal == l)) rs)

-- the codes of the variables in the first step of all effects with a literal
abbrev pub made : Layout → ℕ → List Row → List ℕ
made z l rs = map code (effects_with (variable_at z 0) (λ e. e.literal == l) rs)

-- for each fact literal, the variables of the effects that make it true
pub record IsIndex (z : Layout) (task : Task) (index : List (List ℕ)) : Type 0 where
  pub long : length index ≡ 2 * task.facts
  pub each : (l : ℕ) → l < 2 * task.facts → slice_index_or index l [] ≡ made z l (rows task)

-- The clauses of effects in the first step of a layout.

-- what an effect means: its action, its condition and its variable
abbrev pub meaning_of : Layout → Row → List (List Literal)
meaning_of z r = meaning_clauses (action_at z 0) (fact_at z 0) (variable_at z 0) r

-- what an effect results in: its literal after the step, but for adds beside a delete
abbrev pub result_of : Layout → List Row → Row → List Literal
result_of z all r = result_clause (fact_at z 1) (variable_at z 0) all r

-- the clauses of one effect
abbrev pub effect_of : Layout → List Row → Row → List (List Literal)
effect_of z all r = meaning_of z r ++ result_of z all r ∷ []

-- the clauses of several effects
abbrev pub effects_of : Layout → List Row → List Row → List (List Literal)
effects_of z all rs = effect_clauses (action_at z 0) (fact_at z 0) (fact_at z 1) (variable_at z 0) all rs
