use Rattle.std.specs.Prelude.{◌≡◌, ℕ, ◌/◌, ◌⊎◌, List, Bool, true, ◌||◌}
use Rattle.gt_core.specs.Literal.{holds}
use Rattle.gt_core.specs.Task.{Task, initial_state}
use Rattle.gt_core.specs.Interference.{has_clause}
use Rattle.gt_core.specs.Clauses.{KnownClauses, IsKnownClauses}
use Rattle.implied_literals.specs.Rows.{clause_in}
use Rattle.two_invariants.specs.Closed.{IsClosed, AreInvariants}

-- What each round keeps, and what is left after the last.

-- clauses that are true at first, each closed set among them
pub record Surrounds (task : Task) (rows : List (List ℕ)) : Type 0 where
  pub either : (l m : ℕ) → clause_in rows l m ≡ clause_in rows m l
  pub proper : (l m : ℕ) → clause_in rows l m ≡ true → (l ≡ m) ⊎ (l / 2 ≡ m / 2 → ⊥)
  pub initial : (l m : ℕ) → clause_in rows l m ≡ true → (holds (initial_state task) l || holds (initial_state task) m) ≡ true
  pub greatest : (V : ℕ → ℕ → Bool) → IsClosed task V → (l m : ℕ) → V l m ≡ true → clause_in rows l m ≡ true

-- a sorted list of the clauses of some rows has the invariants
abbrev pub AreGreatest : Task → List (List ℕ) → Type 0
AreGreatest task rows =
    (list : KnownClauses) → IsKnownClauses list → list.facts ≡ task.facts → ((l m : ℕ) → has_clause list.clauses l m ≡ clause_in rows l m) → AreInvariants task list.clauses
