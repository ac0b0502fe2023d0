use Rattle.std.specs.Prelude.{ℕ, ◌==◌, List, map, length}
use Rattle.std.specs.List.{filter}
use Rattle.gt_core.specs.Literal.{range}
use Rattle.action_order.specs.own.Graph.{class_at}

-- the vertices below a number that are of one component, rising
abbrev pub members_below : List ℕ → ℕ → ℕ → List ℕ
members_below classes upto c = filter (λ a. class_at classes a == c) (range upto)

-- the vertices of a component, rising
abbrev pub members : List ℕ → ℕ → List ℕ
members classes c = members_below classes (length classes) c

-- the components in the order of their numbers
abbrev pub listed : List ℕ → List ℕ → List (List ℕ)
listed classes order = map (members classes) order
