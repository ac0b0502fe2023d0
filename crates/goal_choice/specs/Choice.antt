-- The choice of actions backwards from the goals.
use Rattle.std.specs.Prelude.{ℕ, Option, Some, None}
use Rattle.gt_core.specs.Task.{Task}
use Rattle.formula_defs.specs.Layout.{Layout}
use Rattle.clause_base.specs.Choice.{Known, plain_choice}
use Rattle.goal_choice.specs.Means.{Means, means_of}
use Rattle.goal_choice.specs.Walk.{support_of, walk}

-- a choice, or else the plain one: the least variable without a value, made false
abbrev pub or_plain : Known → Option ℕ → Option ℕ
or_plain values (Some c) = Some c
or_plain values None = plain_choice values

-- the choice of the walk from the goals at the last time, or else the plain one
abbrev pub choice_by : Means → Known → Option ℕ
choice_by m values = or_plain values (walk (support_of m values) m.layout.horizon m.goal)

-- the choice for a task over its variables by this layout
abbrev pub choice_of : Task → Layout → Known → Option ℕ
choice_of task z = choice_by (means_of task z)
