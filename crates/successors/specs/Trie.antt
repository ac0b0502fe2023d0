-- Actions in a trie by their preconditions, whose nodes stand in preorder.
use Rattle.std.specs.Prelude.{◌≡◌, ℕ, ◌+◌, ◌*◌, ◌<◌, ◌≤◌, List, length, slice_index, true}
use Rattle.gt_core.specs.Literal.{is_in}
use Rattle.gt_core.specs.Task.{Task, precondition}

-- for each node its literal, the node that comes next where the literal does not hold, and where the node's actions begin; the actions
pub record Branches : Type 0 where
  pub lits : List ℕ
  pub skips : List ℕ
  pub froms : List ℕ
  pub acts : List ℕ

-- an action stands before a place
abbrev pub IsBefore : List ℕ → ℕ → ℕ → Type 0
IsBefore acts bound a = (p : ℕ) × (p < bound) × (slice_index acts p ≡ a)

-- a node has a literal of the facts, and later nodes come next
pub record IsNode (task : Task) (t : Branches) (i : ℕ) : Type 0 where
  pub lit : slice_index t.lits i < 2 * task.facts
  pub on : i < slice_index t.skips i
  pub within : slice_index t.skips i ≤ length t.lits
  pub rising : slice_index t.froms i ≤ slice_index t.froms (i + 1)
  pub inside : slice_index t.froms (i + 1) ≤ length t.acts

-- each action that is left out where the literal of a node does not hold needs that literal
abbrev pub AreNeeding : Task → Branches → ℕ → Type 0
AreNeeding task t i =
    (p : ℕ) → slice_index t.froms i ≤ p → p < slice_index t.froms (slice_index t.skips i)
    → is_in (precondition task (slice_index t.acts p)) (slice_index t.lits i) ≡ true

-- each action of a task stands in the trie, and is left out only where one of the literals that it needs does not hold
pub record IsTrie (task : Task) (t : Branches) : Type 0 where
  pub skips : length t.skips ≡ length t.lits
  pub froms : length t.froms ≡ length t.lits + 1
  pub first : slice_index t.froms 0 ≤ length t.acts
  pub nodes : (i : ℕ) → i < length t.lits → IsNode task t i
  pub acts : (p : ℕ) → p < length t.acts → slice_index t.acts p < length task.actions
  pub all : (a : ℕ) → a < length task.actions → IsBefore t.acts (slice_index t.froms (length t.lits)) a
  pub needs : (i : ℕ) → i < length t.lits → AreNeeding task t i
