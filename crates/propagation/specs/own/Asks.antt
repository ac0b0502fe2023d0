-- What the clauses of the set ask for: a member has one literal at most that is not false, the one that it asks for.
use Rattle.std.specs.Prelude.{◌≡◌, ℕ, ◌*◌, ◌<◌, ◌≤◌, ◌==◌, ◌||◌, ◌⊎◌, List, [], length, Bool, true, false, Option, Some, None, slice_index, slice_set}
use Rattle.clause_base.specs.Literal.{opposite}
use Rattle.clause_base.specs.Clause.{has_literal}
use Rattle.bit_sets.specs.Layered.{IsLeast, words_have}
use Rattle.propagation.specs.declared.pending.Pending.{Pending}
use Rattle.propagation.specs.Pending.{is_free}
use Rattle.cdcl_defs.specs.State.{clause_at}

-- the unit literal of a clause: one of its own, where all others are false
pub record IsUnit (on : ℕ → Bool) (clause : List ℕ) (unit : ℕ) : Type 0 where
  pub place : ℕ
  pub inside : place < length clause
  pub own : slice_index clause place ≡ unit
  pub others : (p : ℕ) → p < length clause → (p ≡ place → ⊥) → is_free on (slice_index clause p) ≡ false

-- what a clause asks for all of whose literals are false but for one: that one; the number of no literal, where it has none
abbrev pub IsAsk : (ℕ → Bool) → List ℕ → ℕ → Type 0
IsAsk on clause ask = ((clause ≡ []) × (ask ≡ 4294967295)) ⊎ IsUnit on clause ask

-- the members of a set are below a number
abbrev pub IsWithin : ℕ → (ℕ → Bool) → Type 0
IsWithin n set = (k : ℕ) → set k ≡ true → k < n

-- no literal is true and false
abbrev pub IsConsistent : List ℕ → Type 0
IsConsistent trail = (l : ℕ) → has_literal trail l ≡ true → has_literal trail (opposite l) ≡ false

-- Of each member of the set all literals but the one that it asks for are false. So what a member asks for is known where it is
-- taken out without a look at its literals, and it stays known as long as the trail grows. There is room for each clause.
pub record HasAsks (clauses : List (List ℕ)) (trail : List ℕ) (p : Pending) : Type 0 where
  pub within : IsWithin (length clauses) (words_have p.numbers)
  pub are : (k : ℕ) → words_have p.numbers k ≡ true → IsAsk (has_literal trail) (clause_at clauses k) (slice_index p.asks.items k)
  pub room : length clauses ≤ 64 * length p.numbers
  pub long : length clauses ≤ length p.asks.items

-- a clause was put into a set with what it asks for
pub record IsPut (number ask : ℕ) (old new : Pending) : Type 0 where
  pub has : (k : ℕ) → words_have new.numbers k ≡ (k == number || words_have old.numbers k)
  pub asks : new.asks.items ≡ slice_set old.asks.items number ask
  pub room : length new.numbers ≡ length old.numbers

-- a set has the members that it had, each asks for what it did, and there is as much room or more
pub record IsWider (old new : Pending) : Type 0 where
  pub same : (k : ℕ) → words_have new.numbers k ≡ words_have old.numbers k
  pub asks : (k : ℕ) → k < length old.asks.items → slice_index new.asks.items k ≡ slice_index old.asks.items k
  pub more_numbers : length old.numbers ≤ length new.numbers
  pub more_asks : length old.asks.items ≤ length new.asks.items

-- the member that forced a literal, if any did, may be gone from a set, and all others are there
pub record IsWithoutOne (reason : Option ℕ) (old new : Pending) : Type 0 where
  pub fewer : (k : ℕ) → words_have new.numbers k ≡ true → words_have old.numbers k ≡ true
  pub others : (k : ℕ) → words_have old.numbers k ≡ true → (words_have new.numbers k ≡ true) ⊎ (reason ≡ Some k)
  pub asks : new.asks.items ≡ old.asks.items
  pub room : length new.numbers ≡ length old.numbers

-- the flag of a length was written, which stands only where the set is empty
pub record IsFlagged (n : ℕ) (p : Pending) (old new : List Bool) : Type 0 where
  pub flag : Bool
  pub is : new ≡ slice_set old n flag
  pub none : flag ≡ true → IsLeast (words_have p.numbers) None
