use Rattle.std.specs.Prelude.{◌≡◌, ℕ, List}
use Rattle.gt_core.specs.Task.{Task}
use Rattle.gt_core.specs.Reached.{HoldsWherever}
use Rattle.two_invariants.specs.Closed.{AreInvariants}

-- each invariant holds in every state that a sequence of actions reaches
abbrev pub InvariantsHold : Type 0
InvariantsHold = (task : Task) (clauses : List (ℕ × ℕ)) → AreInvariants task clauses → HoldsWherever task clauses

-- a task has one list of invariants at most
abbrev pub OneListOfInvariants : Type 0
OneListOfInvariants =
    (task : Task) (clauses others : List (ℕ × ℕ)) → AreInvariants task clauses → AreInvariants task others → clauses ≡ others
