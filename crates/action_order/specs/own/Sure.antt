use Rattle.std.specs.Prelude.{◌≡◌, ℕ, ◌-◌, ◌%◌, ◌<◌, ◌==◌, List, Bool, not, ◌&&◌, ◌||◌, length}
use Rattle.std.specs.List.{AllByRecursion}
use Rattle.bit_sets.specs.Rows.{row_has}
use Rattle.gt_core.specs.Literal.{is_in}
use Rattle.gt_core.specs.Task.{Effect, Action}
use Rattle.gt_core.specs.Interference.{action_may_make, action_surely_makes}
use Rattle.action_order.specs.own.Graph.{row_at}
use Rattle.action_order.specs.own.Readers.{act_at, of_effects}

-- some of an action's effects surely make a literal true: one of them has no condition, and no effect of the action
-- adds the fact where it is a delete
abbrev pub is_sure_of : List Effect → List Effect → ℕ → Bool
is_sure_of some effects l = action_surely_makes (of_effects some) l && ((l % 2 == 0) || not (action_may_make (of_effects effects) (l - 1)))

-- a literal that an action surely makes true: of a sure gain, or of a sure loss
abbrev pub is_sure : List Effect → ℕ → Bool
is_sure effects l = is_sure_of effects effects l

-- the literals that an action surely makes true, over so many
pub record IsSure (top : ℕ) (effects : List Effect) (sure : List ℕ) : Type 0 where
  pub tells : (l : ℕ) → is_in sure l ≡ is_sure effects l
  pub below : AllByRecursion (λ l. l < top) sure

-- the same of each action
pub record AreSure (top : ℕ) (acts : List Action) (sure : List (List ℕ)) : Type 0 where
  pub long : length sure ≡ length acts
  pub each : (a : ℕ) → a < length acts → IsSure top (act_at acts a).effects (row_at sure a)

-- a row has the literals of all effects
abbrev pub AreMade : List ℕ → List Effect → Type 0
AreMade made effects = (l : ℕ) → row_has made l ≡ action_may_make (of_effects effects) l

-- an effect surely makes its literal true, where a row has the literals of all effects of its action
abbrev pub makes_surely : List ℕ → Effect → Bool
makes_surely made e = (length e.condition == 0) && ((e.literal % 2 == 0) || not (row_has made (e.literal - 1)))
