-- What a choice backwards from the goals looks at.
use Rattle.std.specs.Prelude.{ℕ, ◌+◌, ◌*◌, ◌==◌, List, ◌++◌, map, length}
use Rattle.std.specs.List.{filter}
use Rattle.gt_core.specs.Literal.{range}
use Rattle.gt_core.specs.Task.{Task, precondition}
use Rattle.gt_core.specs.Lawful.{conditional_in}
use Rattle.formula_defs.specs.Layout.{Layout, width}
use Rattle.formula_defs.specs.Variables.{Row, rows, variable_at}

-- an effect that makes a fact literal true: its variable in the first step, and what has to hold before it: the precondition of
-- its action and its condition
pub record Supporter : Type 0 where
  pub variable : ℕ
  pub needs : List ℕ

-- the supporter that an effect is: its variable in the first step, and what has to hold before it
abbrev pub supporter_of : Task → Layout → Row → Supporter
supporter_of task z r = record { variable = variable_at z 0 r; needs = precondition task r.effect.action ++ r.effect.condition }

-- of some effects those with a fact literal, in their order
abbrev pub supporters_of : Task → Layout → List Row → ℕ → List Supporter
supporters_of task z effects l = map (supporter_of task z) (filter (λ r. r.effect.literal == l) effects)

-- the variable of a supporter in a step that begins at a variable
abbrev pub variable_from : ℕ → Supporter → ℕ
variable_from start s = start + s.variable

-- the first variable of a step
abbrev pub start_of : Layout → ℕ → ℕ
start_of z t = t * width z

-- how the variables are numbered, the literals of the goal, and for each fact literal its supporters
pub record Means : Type 0 where
  pub layout : Layout
  pub goal : List ℕ
  pub supporters : List (List Supporter)

-- what a task with this layout gives
abbrev pub means_of : Task → Layout → Means
means_of task z = record { layout = z; goal = task.goal; supporters = map (supporters_of task z (rows task)) (range (2 * task.facts)) }

-- the layout of one step of a task without chain variables
abbrev pub plain_layout : Task → Layout
plain_layout task = record { horizon = 1; actions = length task.actions; conditional = conditional_in task.actions; chains = 0; facts = task.facts }

-- what is gathered from a task for all its layouts
abbrev pub gathered_of : Task → Means
gathered_of task = means_of task (plain_layout task)
