-- Sets of fact literals, and what the parts of a chooser keep.
use Rattle.std.specs.Prelude.{◌≡◌, ℕ, ◌+◌, ◌*◌, ◌/◌, ◌<◌, ◌≤◌, List, [], ◌∷◌, true, length, nat_le, slice_index_or}
use Rattle.std.specs.List.{filter, range_with_len, AllByRecursion}
use Rattle.formula_defs.specs.Layout.{Layout}
use Rattle.bit_sets.specs.Rows.{row_has, room}
use Rattle.clause_base.specs.Clause.{IsRising}
use Rattle.goal_choice.specs.Means.{Supporter, Means}
use Rattle.gt_core.specs.Limits.{most_facts}

-- literals of so many facts, rising
pub record Literals : Type 0 where
  pub facts : ℕ
  pub members : List ℕ

-- the members of a row of bits below a number, rising
abbrev pub members_of : List ℕ → ℕ → List ℕ
members_of row end = filter (row_has row) (range_with_len 0 end)

-- no literals, of so many facts
abbrev pub no_literals : ℕ → Literals
no_literals facts = record { facts = facts; members = [] }

-- the members from a number on
abbrev pub members_from : ℕ → List ℕ → List ℕ
members_from low ls = filter (λ l. nat_le low l) ls

-- a row of bits has room for the numbers below one and has no others: so a walk puts a literal in without memory, and asks without a test
pub record IsOver (end : ℕ) (row : List ℕ) : Type 0 where
  pub few : end ≤ 4096
  pub room : end ≤ room row
  pub below : (k : ℕ) → row_has row k ≡ true → k < end

-- a supporter's variable is that of an action or of a conditional effect, and it needs literals of the facts
pub record IsWithin (z : Layout) (s : Supporter) : Type 0 where
  pub variable : s.variable < z.actions + z.conditional
  pub needs : AllByRecursion (λ l. l / 2 < z.facts) s.needs

-- the goal is sorted and of the facts, and so are the needs of each literal's supporters
pub record AreMeans (m : Means) : Type 0 where
  pub few : m.layout.facts ≤ most_facts
  pub rising : IsRising m.goal
  pub goal : AllByRecursion (λ l. l / 2 < m.layout.facts) m.goal
  pub long : length m.supporters ≡ 2 * m.layout.facts
  pub each : (l : ℕ) → AllByRecursion (IsWithin m.layout) (slice_index_or m.supporters l [])

-- the variable of each supporter is at most that of each later one
abbrev pub IsByVariable : List Supporter → Type 0
IsByVariable [] = Unit {0}
IsByVariable (s ∷ rest) = AllByRecursion (λ r. s.variable ≤ r.variable) rest × IsByVariable rest
