use Rattle.std.specs.Prelude.{◌≡◌, ℕ, ◌<◌, ◌==◌, List, Bool, not, ◌&&◌, ◌||◌}
use Rattle.std.specs.List.{list_any, list_all, AllByRecursion}
use Rattle.bit_sets.specs.Rows.{row_has}
use Rattle.gt_core.specs.Literal.{opposite}
use Rattle.gt_core.specs.Task.{Effect}
use Rattle.implied_literals.specs.Breaks.{is_add}
use Rattle.implied_literals.specs.Tested.{IsSetOf, with_more, has_no_pair}
use Rattle.two_invariants.specs.declared.groups.Group.{Group}

-- Effects in groups of one condition. A test finds an effect by its literal and a test of its condition.

-- some effect has a literal and a condition that passes a test
abbrev pub effect_with : List Effect → ℕ → (List ℕ → Bool) → Bool
effect_with effects l test = list_any (λ e. (e.literal == l) && test e.condition) effects

-- some group has
abbrev pub group_with : List Group → ℕ → (List ℕ → Bool) → Bool
group_with groups l test = list_any (λ g. row_has g.literals l && test g.condition.items) groups

-- the literals of a group are of so many facts, and their opposites are listed
pub record GroupFits (size : ℕ) (g : Group) : Type 0 where
  pub condition : AllByRecursion (λ l. l < size) g.condition.items
  pub turned : (m : ℕ) → row_has g.opposites m ≡ row_has g.literals (opposite m)
  pub within : IsSetOf size (row_has g.opposites)

-- What an action breaks, where a test finds its effects.

-- an effect may take a literal where this set is known: the set is no contradiction, and no sure add overrules a delete
abbrev pub may_take_by : ℕ → (ℕ → (List ℕ → Bool) → Bool) → (ℕ → Bool) → ℕ → Bool
may_take_by facts has set l = has_no_pair facts set && not (is_add l && has l (list_all set))

-- an effect may take a literal
abbrev pub may_lose : ℕ → List (List ℕ) → (ℕ → (List ℕ → Bool) → Bool) → (ℕ → Bool) → ℕ → Bool
may_lose facts rows has set l = has (opposite l) (λ c. may_take_by facts has (with_more rows set c) l)

-- a literal surely holds after the action
abbrev pub is_sure_by : ℕ → List (List ℕ) → (ℕ → (List ℕ → Bool) → Bool) → (ℕ → Bool) → ℕ → Bool
is_sure_by facts rows has set m = (set m || has m (list_all set)) && not (may_lose facts rows has set m)

-- effects with a condition break the clause of the opposite of their literal with another
abbrev pub breaks_under : ℕ → List (List ℕ) → (ℕ → (List ℕ → Bool) → Bool) → (ℕ → Bool) → ℕ → ℕ → List ℕ → Bool
breaks_under facts rows has set l m c =
    may_take_by facts has (with_more rows set c) l && not (is_sure_by facts rows has (with_more rows set c) m)
