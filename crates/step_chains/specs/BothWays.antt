-- Where the chains of all-steps go.
use Rattle.std.specs.Prelude.{ℕ, ◌+◌, ◌*◌, List, [], ◌∷◌, Bool, true, if◌then◌else◌, reverse}
use Rattle.std.specs.List.{flat_map}
use Rattle.gt_core.specs.Literal.{range}
use Rattle.gt_core.specs.Task.{Task}
use Rattle.gt_core.specs.Published.{order_of}

-- a fact literal with some actions in an order and, if so asked, with them in the reverse order
abbrev pub ways : Bool → List ℕ → ℕ → List (List ℕ × ℕ)
ways both members m = (members, m) ∷ (if both then (reverse members, m) ∷ [] else [])

-- how many members there are in these ways
abbrev pub ways_in : Bool → ℕ → ℕ
ways_in both n = if both then n + n else n

-- each fact literal with all actions of an order, forward and then backward
abbrev pub all_places : Task → List (List ℕ) → List (List ℕ × ℕ)
all_places task components = flat_map (ways true (order_of components)) (range (2 * task.facts))
