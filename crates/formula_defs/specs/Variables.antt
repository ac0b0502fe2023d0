use Rattle.std.specs.Prelude.{ℕ, ◌+◌, ◌*◌, ◌==◌, List, [], ◌∷◌, Bool, false, not, if◌then◌else◌, map, length}
use Rattle.std.specs.List.{flat_map}
use Rattle.gt_core.specs.Literal.{range}
use Rattle.gt_core.specs.Task.{Task, EffectOf, effects}
use Rattle.gt_core.specs.Lawful.{conditional_in}
use Rattle.gt_core.specs.Interference.{takes, reads}
use Rattle.formula_defs.specs.Layout.{Layout, action_at, conditional_at}
use Rattle.formula_defs.specs.Chain.{chain_length}

-- an effect is conditional where its condition is not empty
abbrev pub has_condition : EffectOf → Bool
has_condition e = not (length e.condition == 0)

-- an effect with the number that it has where it is conditional
pub record Row : Type 0 where
  pub effect : EffectOf
  pub number : ℕ

-- effects with their numbers; the first conditional one has number j
abbrev pub rows_from : ℕ → List EffectOf → List Row
rows_from j [] = []
rows_from j (e ∷ es) = record { effect = e; number = j } ∷ rows_from (if has_condition e then j + 1 else j) es

-- the effects of a task, the conditional ones numbered by action and then by place in the action
abbrev pub rows : Task → List Row
rows task = rows_from 0 (effects task)

-- members in an order, a fact literal, and the number of the first chain variable
pub record Chain : Type 0 where
  pub members : List ℕ
  pub literal : ℕ
  pub first : ℕ

-- Where chains go is an argument: places, each some members in an order and a fact literal.

-- chains with their numbers; where members and a literal have no reader after a taker, the chain has no variable
-- and no clause
abbrev pub chains_from : Task → ℕ → List (List ℕ × ℕ) → List Chain
chains_from task first [] = []
chains_from task first (p ∷ ps) =
    record { members = p.0; literal = p.1; first = first } ∷ chains_from task (first + chain_length (takes task p.1) (reads task p.1) false p.0) ps

-- where chains of exists-steps go: each component with each fact literal, by the component's place and then by the literal
abbrev pub chain_places : Task → List (List ℕ) → List (List ℕ × ℕ)
chain_places task components = flat_map (λ ks. map (λ m. (ks, m)) (range (2 * task.facts))) components

-- the chains of a task at places in order
abbrev pub chains : Task → List (List ℕ × ℕ) → List Chain
chains task places = chains_from task 0 places

-- how many chain variables these have
abbrev pub chain_variables_in : Task → List (List ℕ × ℕ) → ℕ
chain_variables_in task [] = 0
chain_variables_in task (p ∷ ps) = chain_length (takes task p.1) (reads task p.1) false p.0 + chain_variables_in task ps

-- the layout of the formula of a horizon
abbrev pub layout_of : Task → List (List ℕ × ℕ) → ℕ → Layout
layout_of task places n = record {
  horizon = n;
  actions = length task.actions;
  conditional = conditional_in task.actions;
  chains = chain_variables_in task places;
  facts = task.facts;
}

-- the variable of an effect in a step: its own where it is conditional, else its action's
abbrev pub variable_at : Layout → ℕ → Row → ℕ
variable_at z t r = if has_condition r.effect then conditional_at z t r.number else action_at z t r.effect.action
