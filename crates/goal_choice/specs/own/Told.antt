-- What is kept of the walk over the values of literals that were told.
use Rattle.std.specs.Prelude.{◌≡◌, ℕ, ◌/◌, ◌<◌, ◌≤◌, List, All}
use Rattle.clause_base.specs.Told.{told_values}
use Rattle.formula_defs.specs.Layout.{variables}
use Rattle.goal_choice.specs.Means.{Means}
use Rattle.goal_choice.specs.own.Members.{Literals}
use Rattle.goal_choice.specs.own.Kept.{WalkView, IsWalk}

-- what a walk is made from, the literals that were told, oldest first, and sets of literals by time, which it came down to a time
-- with
pub record ToldView : Type 0 where
  pub means : Means
  pub told : List ℕ
  pub wanted : List Literals
  pub low : ℕ

-- the walk over the values of the literals that were told
abbrev pub walk_of : ToldView → WalkView
walk_of v = record { means = v.means; seen = told_values (variables v.means.layout) v.told; wanted = v.wanted; low = v.low }

-- that is what is kept, so that a choice goes on from it; the literals are of the variables, and there is room for one of each, so that
-- to tell one takes no memory; the set to write over is of the facts
pub record IsTold (v : ToldView) (facts capacity : ℕ) : Type 0 where
  pub walk : IsWalk (walk_of v)
  pub below : All (λ l. l / 2 < variables v.means.layout) v.told
  pub room : variables v.means.layout ≤ capacity
  pub before : facts ≡ v.means.layout.facts
