-- What is kept of the walk over some values.
use Rattle.std.specs.Prelude.{◌≡◌, ℕ, ◌+◌, ◌/◌, ◌<◌, ◌≤◌, List, [], Bool, true, Option, Some, None, length, slice_index_or, slice_set}
use Rattle.std.specs.List.{AllByRecursion}
use Rattle.clause_base.specs.Choice.{Known}
use Rattle.formula_defs.specs.Layout.{variables}
use Rattle.goal_choice.specs.Means.{Means, variable_from, start_of}
use Rattle.goal_choice.specs.Walk.{has_value, is_false_at, support_of, supports, walk}
use Rattle.goal_choice.specs.own.Supports.{IsStep}
use Rattle.goal_choice.specs.own.Members.{Literals, AreMeans, no_literals}

-- what a walk is made from, the values that it saw last, and sets of literals by time, which it came down to a time with
pub record WalkView : Type 0 where
  pub means : Means
  pub seen : Known
  pub wanted : List Literals
  pub low : ℕ

-- the set at a time
abbrev pub set_at : List Literals → ℕ → Literals
set_at sets t = slice_index_or sets t (no_literals 0)

-- for each time there is a set with room for all literals; the last one has the goal, and from the last time down to `low` each
-- has what the walk over the values wants there
pub record IsWalk (w : WalkView) : Type 0 where
  pub means : AreMeans w.means
  pub fits : length w.seen ≡ variables w.means.layout
  pub long : length w.wanted ≡ w.means.layout.horizon + 1
  pub facts : (t : ℕ) → t ≤ w.means.layout.horizon → (set_at w.wanted t).facts ≡ w.means.layout.facts
  pub low : w.low ≤ w.means.layout.horizon
  pub goal : (set_at w.wanted w.means.layout.horizon).members ≡ w.means.goal
  pub within : (t : ℕ) → w.low ≤ t → t ≤ w.means.layout.horizon → AllByRecursion (λ l. l / 2 < w.means.layout.facts) (set_at w.wanted t).members
  pub each : (t : ℕ) → w.low ≤ t → t < w.means.layout.horizon → IsStep (supports (support_of w.means w.seen t) (set_at w.wanted (t + 1)).members) None (set_at w.wanted t).members

-- of a literal that is wanted after a step: as values change, the same supporters are true, none is open that was not, and it is
-- not false before the step where it was not
pub record IsPassed (m : Means) (before after : Known) (t l : ℕ) : Type 0 where
  pub held : AllByRecursion (λ s. has_value after (variable_from (start_of m.layout t) s) (Some true) ≡ has_value before (variable_from (start_of m.layout t) s) (Some true)) (slice_index_or m.supporters l [])
  pub unset : AllByRecursion (λ s. has_value after (variable_from (start_of m.layout t) s) None ≡ true → has_value before (variable_from (start_of m.layout t) s) None ≡ true) (slice_index_or m.supporters l [])
  pub fact : is_false_at m.layout after t l ≡ true → is_false_at m.layout before t l ≡ true

-- so it is from a time on, as far as the walk went, where a variable gets a value
abbrev pub IsSameFrom : WalkView → ℕ → Option Bool → ℕ → Type 0
IsSameFrom w v value low = (t : ℕ) → low ≤ t → w.low ≤ t → t < w.means.layout.horizon → AllByRecursion (IsPassed w.means w.seen (slice_set w.seen v value) t) (set_at w.wanted (t + 1)).members

-- the choice of the walk over some values
abbrev pub walked : Means → Known → Option ℕ
walked m values = walk (support_of m values) m.layout.horizon m.goal
