use Rattle.std.specs.Prelude.{ℕ, ◌<◌, List, [], length}
use Rattle.action_order.specs.own.Graph.{item}
use Rattle.action_order.specs.own.Sorting.{IsSorting}
use Rattle.action_order.specs.own.KeySet.{IsFirst}
use Rattle.action_order.specs.declared.sort.TopologicalSort.{TopologicalSort}

-- the sorting's state, as lists
abbrev pub IsSortingOf : List (List ℕ) → List ℕ → List ℕ → TopologicalSort → List ℕ → Type 0
IsSortingOf rows names classes s free = IsSorting rows names classes s.taken.items s.passed.items s.waiting.items s.ready.keys s.order.items free

-- once the ready name of a component is taken out of the names, the component can be taken
pub record TakesNext (rows : List (List ℕ)) (names classes : List ℕ) (s : TopologicalSort) (t : ℕ) : Type 0 where
  pub ready : List ℕ
  pub sorting : IsSorting rows names classes s.taken.items s.passed.items s.waiting.items ready s.order.items []
  pub first : IsFirst ready (item names t) s.ready.keys
  pub below : t < length rows
