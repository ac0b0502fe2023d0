use Rattle.std.specs.Prelude.{◌≡◌, ℕ, ◌*◌, ◌/◌, ◌<◌, ◌⊎◌, List, Bool, true, ◌||◌, length}
use Rattle.gt_core.specs.Literal.{holds}
use Rattle.gt_core.specs.Task.{Task, action, initial_state}
use Rattle.gt_core.specs.Interference.{has_clause}
use Rattle.gt_core.specs.Clauses.{IsKnownClauses}
use Rattle.implied_literals.specs.Breaks.{Breaks}

-- a closed set of clauses: each is over one literal of the task's facts or over two of different facts, each is true in
-- the initial state, and no action breaks one of them under the set
pub record IsClosed (task : Task) (V : ℕ → ℕ → Bool) : Type 0 where
  pub either : (l m : ℕ) → V l m ≡ V m l
  pub within : (l m : ℕ) → V l m ≡ true → l < 2 * task.facts
  pub proper : (l m : ℕ) → V l m ≡ true → (l ≡ m) ⊎ (l / 2 ≡ m / 2 → ⊥)
  pub initial : (l m : ℕ) → V l m ≡ true → (holds (initial_state task) l || holds (initial_state task) m) ≡ true
  pub unbroken : (a : ℕ) → a < length task.actions → (l m : ℕ) → V l m ≡ true → Breaks V (action task a) l m → ⊥

-- the invariants of a task, as a sorted list: the closed set that has each closed set in it
pub record AreInvariants (task : Task) (clauses : List (ℕ × ℕ)) : Type 0 where
  pub listed : IsKnownClauses (record { facts = task.facts; clauses = clauses })
  pub closed : IsClosed task (has_clause clauses)
  pub greatest : (V : ℕ → ℕ → Bool) → IsClosed task V → (l m : ℕ) → V l m ≡ true → has_clause clauses l m ≡ true
