-- The tables that are read where clauses are visited and where the first pending one is sought.
use Rattle.std.specs.Prelude.{◌≡◌, ℕ, ◌<◌, ◌≤◌, List, Bool, true, false, length, slice_index_or}
use Rattle.propagation.specs.declared.tables.Tables.{Tables}
use Rattle.cdcl_tables.specs.Stored.{CanReadKept}
use Rattle.propagation.specs.Pending.{is_pending_on}
use Rattle.propagation.specs.own.Steps.{AreStepped}
use Rattle.propagation.specs.own.Visit.{IsFit, slot_clauses, slot_flags, AreSlotsBelow}

-- the clauses of the slots, which of them are kept, and which clauses are kept and pending
abbrev pub clauses_in : Tables → List (List ℕ)
clauses_in t = slot_clauses t.store.clauses t.slots.items

-- which of the clauses of the slots are kept
abbrev pub flags_in : Tables → List Bool
flags_in t = slot_flags t.kept.items t.slots.items

-- a clause is kept and pending
abbrev pub pending_in : Tables → List ℕ → ℕ → Bool
pending_in t trail = is_pending_on t.store.clauses t.kept.items trail

-- each clause below a number is kept
abbrev pub AreKeptBelow : ℕ → List Bool → Type 0
AreKeptBelow n kept = (k : ℕ) → k < n → slice_index_or kept k false ≡ true

-- what holds of the tables, where the literals are below a number: so a clause, its flag and its slots are found by its number, and codes
-- and numbers have 32 bits
pub record AreTables (t : Tables) (codes : ℕ) : Type 0 where
  pub limit : codes ≤ 4294967294
  pub fit : IsFit t.store.clauses codes
  pub small : length t.store.clauses ≤ 4294967295
  pub kept : length t.kept.items ≡ length t.store.clauses
  pub whole : AreKeptBelow t.kept_below t.kept.items
  pub read : CanReadKept t.kept.items t.store
  pub packed : length t.store.packed ≡ length t.store.clauses
  pub slotted : AreSlotsBelow (length t.store.clauses) t.slots.items
  pub few : length t.slots.items ≤ 4294967295
  pub steps : AreStepped t.store.clauses t.slots.items t.steps
