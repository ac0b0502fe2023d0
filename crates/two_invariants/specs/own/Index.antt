use Rattle.std.specs.Prelude.{◌≡◌, ℕ, ◌<◌, ◌==◌, ◌&&◌, ◌⊎◌, List, Bool, true, false, Some, length}
use Rattle.std.specs.List.{list_any, list_all, slice_get}
use Rattle.bit_sets.specs.Rows.{row_has}
use Rattle.gt_core.specs.Literal.{opposite}
use Rattle.implied_literals.specs.Rows.{IsPart}
use Rattle.implied_literals.specs.Tested.{with_more, has_no_pair}
use Rattle.two_invariants.specs.own.Groups.{group_with, may_take_by}
use Rattle.two_invariants.specs.own.Numbers.{finds}
use Rattle.two_invariants.specs.declared.groups.Group.{Group}
use Rattle.two_invariants.specs.declared.givers.Givers.{Givers}
use Rattle.two_invariants.specs.declared.takers.Takers.{Takers}

-- Where groups of effects are found by literals.

-- a group has a number
abbrev pub IsNumbered : List Group → ℕ → Group → Type 0
IsNumbered groups n g = slice_get groups n ≡ Some g

-- what a group has, some group has
abbrev pub IsGroupOf : List Group → Group → Type 0
IsGroupOf groups g = (l : ℕ) (test : List ℕ → Bool) → (row_has g.literals l && test g.condition.items) ≡ true → group_with groups l test ≡ true

-- a group makes a literal true where a set is known
abbrev pub gives_in : (ℕ → Bool) → Group → ℕ → Bool
gives_in set g m = row_has g.literals m && list_all set g.condition.items

-- what a group makes true is made true at any rate, or the group is found by a literal of its condition
abbrev pub IsGiver : Group → ℕ → Givers → Type 0
IsGiver g n givers =
    IsPart (row_has g.literals) (row_has givers.base)
    ⊎ ((k : ℕ) × ((list_any (λ l. l == k) g.condition.items ≡ true) × (finds givers.by k n ≡ true)))

-- the groups that may make a literal true where a set, or more, is known, up to a number
pub record AreGivers (set : ℕ → Bool) (groups : List Group) (upto : ℕ) (givers : Givers) : Type 0 where
  pub lists : 0 < length givers.by.lists.items
  pub base : (m : ℕ) → row_has givers.base m ≡ true → group_with groups m (list_all set) ≡ true
  pub each : (n : ℕ) (g : Group) → n < upto → IsNumbered groups n g → IsGiver g n givers

-- a group may take a literal where a set is known
abbrev pub takes_in : ℕ → List (List ℕ) → List Group → (ℕ → Bool) → Group → ℕ → Bool
takes_in facts rows groups set g m =
    row_has g.opposites m && may_take_by facts (group_with groups) (with_more rows set g.condition.items) m

-- what a group may take is taken at any rate, or its condition never holds, or the group is found by what it may take
abbrev pub IsTaker : ℕ → List (List ℕ) → (ℕ → Bool) → Group → ℕ → Takers → Type 0
IsTaker facts rows set g n takers =
    (m : ℕ) → row_has g.opposites m ≡ true
    → (row_has takers.plain m ≡ true) ⊎ ((has_no_pair facts (with_more rows set g.condition.items) ≡ false) ⊎ (finds takers.by m n ≡ true))

-- the groups that may take a literal where a set, or more, is known, up to a number
pub record AreTakers (facts : ℕ) (rows : List (List ℕ)) (set : ℕ → Bool) (groups : List Group) (upto : ℕ) (takers : Takers) : Type 0 where
  pub lists : 0 < length takers.by.lists.items
  pub plain : (m : ℕ) → row_has takers.plain m ≡ true → group_with groups (opposite m) (λ c. length c == 0) ≡ true
  pub each : (n : ℕ) (g : Group) → n < upto → IsNumbered groups n g → IsTaker facts rows set g n takers

-- a literal is known that no group takes
abbrev pub IsFirm : Takers → (ℕ → Bool) → ℕ → Type 0
IsFirm takers known m = (known m ≡ true) × (row_has takers.plain m ≡ false) × (row_has takers.by.literals m ≡ false)
