use Rattle.std.specs.Prelude.{◌≡◌, ℕ, ◌*◌, ◌<◌, ◌≤◌, Bool, length}
use Rattle.std.specs.List.{AllByRecursion, list_all}
use Rattle.bit_sets.specs.Rows.{row_has}
use Rattle.implied_literals.specs.Tested.{IsSetOf, AreRowsOf}
use Rattle.two_invariants.specs.own.Groups.{group_with, may_lose, GroupFits}
use Rattle.two_invariants.specs.own.Index.{takes_in, AreGivers}
use Rattle.two_invariants.specs.declared.groups.Group.{Group}
use Rattle.two_invariants.specs.declared.takers.Before.{Before}
use Rattle.two_invariants.specs.declared.takers.Here.{Here}
use Rattle.gt_core.specs.Limits.{most_facts}

-- What is known before an action, and where the condition of a group of its effects holds besides.

-- all is over literals of so many facts
pub record IsBefore (before : Before) : Type 0 where
  pub few : before.facts ≤ most_facts
  pub rows : AreRowsOf (2 * before.facts) before.rows.now
  pub set : IsSetOf (2 * before.facts) (row_has before.set.now)
  pub groups : AllByRecursion (GroupFits (2 * before.facts)) before.groups.now

-- the groups that may give a literal here are found, and what is given here is
pub record IsHere (here : Here) : Type 0 where
  pub before : IsBefore here.before.now
  pub set : IsSetOf (2 * here.before.now.facts) (row_has here.set.now)
  pub givers : AreGivers (row_has here.set.now) here.before.now.groups.now (length here.before.now.groups.now) here.givers.now
  pub given : (m : ℕ) → row_has here.given.now m ≡ group_with here.before.now.groups.now m (list_all (row_has here.set.now))
  pub lists : 0 < length here.takers.now.by.lists.items

-- a group may take a literal here
abbrev pub takes_here : Here → Group → ℕ → Bool
takes_here here = takes_in here.before.now.facts here.before.now.rows.now here.before.now.groups.now (row_has here.set.now)

-- some group may
abbrev pub loses_here : Here → ℕ → Bool
loses_here here = may_lose here.before.now.facts here.before.now.rows.now (group_with here.before.now.groups.now) (row_has here.set.now)
