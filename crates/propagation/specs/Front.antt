-- The least clause that is kept and pending, and what it asks for.
use Rattle.std.specs.Prelude.{◌≡◌, ℕ, ◌*◌, ◌&&◌, List, Bool, true, false, length, Option, Some, None}
use Rattle.cdcl_defs.specs.declared.event.Event.{Event}
use Rattle.cdcl_defs.specs.State.{clause_at}
use Rattle.cdcl_defs.specs.Pending.{open_ones, is_pending_in, least_from}
use Rattle.cdcl_defs.specs.Event.{asked}
use Rattle.cdcl_tables.specs.Assignment.{AssignmentView}
use Rattle.bit_sets.specs.Layered.{words_have}
use Rattle.propagation.specs.declared.pending.Pending.{Pending}
use Rattle.propagation.specs.declared.tables.Tables.{Tables}
use Rattle.propagation.specs.own.Asks.{HasAsks, IsConsistent}
use Rattle.propagation.specs.own.Tables.{AreTables}

-- what the set is cleaned by: the tables, an assignment without contradiction, and what each member asks for under it
pub record AreRead (t : Tables) (a : AssignmentView) (p : Pending) : Type 0 where
  pub tables : AreTables t (2 * a.variables)
  pub consistent : IsConsistent a.trail
  pub asks : HasAsks t.store.clauses a.trail p

-- what the clause with a number asks for, where this tells the true literals
abbrev pub asked_at : List (List ℕ) → (ℕ → Bool) → ℕ → Event
asked_at clauses on number = asked number (open_ones on (clause_at clauses number))

-- what the first clause asks for that is kept and pending
abbrev pub first_asked : List (List ℕ) → List Bool → (ℕ → Bool) → Option Event
first_asked clauses kept on =
    elim (least_from (is_pending_in clauses kept on) 0 (length clauses)) [ Some number ↦ Some (asked_at clauses on number) | None ↦ None ]

-- an event where a test passes, and none where it fails
abbrev pub IsAnswer : Bool → Event → Option Event → Type 0
IsAnswer passes event None = passes ≡ false
IsAnswer passes event (Some e) = (passes ≡ true) × (e ≡ event)

-- Each number that passes is in the set: no clause that is kept and pending is missed.
abbrev pub IsComplete : (ℕ → Bool) → Pending → Type 0
IsComplete passes p = (k : ℕ) → passes k ≡ true → words_have p.numbers k ≡ true

-- each member that passes stays in the set
abbrev pub StayWhere : (ℕ → Bool) → Pending → Pending → Type 0
StayWhere passes old new = IsComplete (λ k. passes k && words_have old.numbers k) new
