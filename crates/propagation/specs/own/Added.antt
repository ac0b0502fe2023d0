-- A new clause: room for it in the tables, and what its watched literals are chosen by.
use Rattle.std.specs.Prelude.{◌≡◌, ℕ, ◌+◌, ◌*◌, ◌<◌, ◌≤◌, ◌⊎◌, List, [], ◌∷◌, ◌++◌, length, take, Bool, true, false, Option}
use Rattle.clause_base.specs.Clause.{has_literal}
use Rattle.cdcl_defs.specs.Pending.{is_pending}
use Rattle.cdcl_tables.specs.Linked.{IsLinked, ArePairLoose, blocking_of}
use Rattle.propagation.specs.declared.pending.Pending.{Pending}
use Rattle.propagation.specs.declared.enter.Entered.{Entered}
use Rattle.propagation.specs.declared.tables.Tables.{Tables}
use Rattle.propagation.specs.declared.visit.WatchState.{WatchState}
use Rattle.propagation.specs.own.Asks.{IsPut, IsWider}
use Rattle.propagation.specs.Pending.{is_free}
use Rattle.propagation.specs.own.Visit.{IsAtRest}
use Rattle.propagation.specs.own.Sound.{AreFree}

-- in each prefix of the trail in which the other literal is not false, this one is not false either
abbrev pub Outlasts : List ℕ → ℕ → ℕ → Type 0
Outlasts trail l other = (n : ℕ) → n ≤ length trail → is_free (has_literal (take n trail)) other ≡ true → is_free (has_literal (take n trail)) l ≡ true

-- the tables have room for a slot, and for a clause with a number too
pub record HasSlotRoom (slot : ℕ) (l : WatchState) : Type 0 where
  pub in_nodes : 2 * slot + 1 < length l.chains.nodes.items
  pub in_froms : slot < length l.resume_at.items

-- the tables have room for a clause with this number in this slot
pub record HasRoom (number slot : ℕ) (l : WatchState) : Type 0 where
  pub in_numbers : number < 64 * length l.pending.numbers
  pub in_asks : number < length l.pending.asks.items
  pub in_slot : HasSlotRoom slot l

-- so they do for all clauses and slots before these
pub record HasRoomBelow (number slot : ℕ) (l : WatchState) : Type 0 where
  pub few : number < 2147483647
  pub few_slots : slot < 2147483647
  pub numbers : number ≤ 64 * length l.pending.numbers
  pub asks : number ≤ length l.pending.asks.items
  pub nodes : 2 * slot ≤ length l.chains.nodes.items
  pub resume_at : slot ≤ length l.resume_at.items

-- the two nodes of a slot are on no chain
abbrev pub IsLoose : ℕ → WatchState → Type 0
IsLoose slot l = ArePairLoose l.chains.heads.items l.chains.nodes.items (2 * slot)

-- the tables hold what they did, and may have more room
pub record AreWider (l l' : WatchState) : Type 0 where
  pub linked : (on : ℕ → Option ℕ) → IsLinked l.chains.heads.items l.chains.nodes.items on → IsLinked l'.chains.heads.items l'.chains.nodes.items on
  pub codes : length l'.chains.heads.items ≡ length l.chains.heads.items
  pub blockings : (k : ℕ) → k < length l.chains.nodes.items → blocking_of l'.chains.nodes.items k ≡ blocking_of l.chains.nodes.items k
  pub more_nodes : length l.chains.nodes.items ≤ length l'.chains.nodes.items
  pub more_froms : length l.resume_at.items ≤ length l'.resume_at.items
  pub pending : IsWider l.pending l'.pending

-- the clauses, which of them are kept, the slots and their steps are the same
pub record AreSame (t t' : Tables) : Type 0 where
  pub store : t'.store ≡ t.store
  pub kept : t'.kept.items ≡ t.kept.items
  pub kept_below : t'.kept_below ≡ t.kept_below
  pub slots : t'.slots.items ≡ t.slots.items
  pub steps : t'.steps ≡ t.steps

-- with a slot more, whose nodes are on their chains, the tables are at rest
abbrev pub RestsWith : List ℕ → ℕ → ℕ → WatchState → WatchState → Type 0
RestsWith clause slot codes l l' =
    (clauses : List (List ℕ)) (kept : List Bool) → length clauses ≡ slot → length kept ≡ slot → IsAtRest clauses l.resume_at.items l.chains.heads.items l.chains.nodes.items codes kept
    → IsAtRest (clauses ++ clause ∷ []) l'.resume_at.items l'.chains.heads.items l'.chains.nodes.items codes (kept ++ true ∷ [])

-- with a slot more the watched literals are right in each prefix of the trail in which they were
abbrev pub FreeWith : List ℕ → ℕ → List ℕ → WatchState → WatchState → Type 0
FreeWith clause slot trail l l' =
    (clauses : List (List ℕ)) (kept : List Bool) (n : ℕ) → length clauses ≡ slot → length kept ≡ slot → n ≤ length trail → AreFree clauses l.chains.nodes.items kept (take n trail)
    → AreFree (clauses ++ clause ∷ []) l'.chains.nodes.items (kept ++ true ∷ []) (take n trail)

-- in the prefixes of the trail below a length a clause is not pending
abbrev pub IsQuietBelow : List ℕ → List ℕ → ℕ → Type 0
IsQuietBelow clause trail low = (n : ℕ) → n ≤ length trail → n < low → is_pending (has_literal (take n trail)) clause ≡ false

-- a clause of fewer than two literals is not watched, and nothing has changed
pub record IsLeft (clause slots : List ℕ) (l : WatchState) (slots' : List ℕ) (l' : WatchState) : Type 0 where
  pub short : length clause < 2
  pub slots_stay : slots' ≡ slots
  pub lists_stay : l' ≡ l

-- a clause has the next slot
pub record IsInSlot (clause : List ℕ) (number codes : ℕ) (trail slots : List ℕ) (l : WatchState) (slots' : List ℕ) (l' : WatchState) : Type 0 where
  pub slotted : slots' ≡ slots ++ number ∷ []
  pub rests : RestsWith clause (length slots) codes l l'
  pub free : FreeWith clause (length slots) trail l l'

-- a clause has fewer than two literals or the next slot
abbrev pub IsTaken : List ℕ → ℕ → ℕ → List ℕ → List ℕ → WatchState → List ℕ → WatchState → Type 0
IsTaken clause number codes trail slots l slots' l' =
    IsLeft clause slots l slots' l' ⊎ IsInSlot clause number codes trail slots l slots' l'

-- a new clause was put into the set, unless it is not pending in any prefix of the trail
abbrev pub IsRaised : List ℕ → ℕ → Entered → Pending → Pending → Type 0
IsRaised trail number entered old new =
    ((entered.low ≤ length trail) × IsPut number entered.ask old new) ⊎ ((length trail < entered.low) × (new ≡ old))
