-- The tables of the first clauses of a formula, before any literal is true.
use Rattle.std.specs.Prelude.{◌≡◌, ℕ, ◌*◌, ◌<◌, ◌≤◌, List, Bool, length, replicate, slice_index, true}
use Rattle.cdcl_defs.specs.State.{clause_at}
use Rattle.bit_sets.specs.Layered.{words_have}
use Rattle.propagation.specs.declared.given.Given.{Given}
use Rattle.propagation.specs.own.Asks.{IsAsk}
use Rattle.propagation.specs.own.Pairs.{HasSlot}
use Rattle.propagation.specs.own.Visit.{slot_clauses, AreSlotsBelow, IsAtRest}

-- of the clauses whose numbers are below this one, just those of fewer than two literals are in the set, and just those of more
-- than two have slots
pub record AreGiven (codes : ℕ) (clauses : List (List ℕ)) (number : ℕ) (g : Given) : Type 0 where
  pub slotted : AreSlotsBelow number g.slots.items
  pub few : length g.slots.items ≤ number
  pub rest : IsAtRest (slot_clauses clauses g.slots.items) g.lists.resume_at.items g.lists.chains.heads.items g.lists.chains.nodes.items codes (replicate (length g.slots.items) true)
  pub longs : (c : ℕ) → c < number → 2 < length (clause_at clauses c) → HasSlot g.slots.items c
  pub shorts : (c : ℕ) → c < number → length (clause_at clauses c) < 2 → words_have g.lists.pending.numbers c ≡ true
  pub only : (c : ℕ) → words_have g.lists.pending.numbers c ≡ true → (c < number) × (length (clause_at clauses c) < 2)
  pub asks : (c : ℕ) → words_have g.lists.pending.numbers c ≡ true → (on : ℕ → Bool) → IsAsk on (clause_at clauses c) (slice_index g.lists.pending.asks.items c)
  pub room : length clauses ≤ 64 * length g.lists.pending.numbers
  pub long : length clauses ≤ length g.lists.pending.asks.items

-- the places of a list, in order
abbrev pub AreRising : List ℕ → Type 0
AreRising places = (i j : ℕ) → i < j → j < length places → slice_index places i < slice_index places j

-- a place below a number that is none of these
pub record IsBeside (places : List ℕ) (count place : ℕ) : Type 0 where
  pub below : place < count
  pub apart : (s : ℕ) → s < length places → slice_index places s ≡ place → ⊥

-- the places of those clauses of a list that have not two literals, in order, and how many clauses the list has
pub record AreOthers (list : List (List ℕ)) (places : List ℕ) (all : ℕ) : Type 0 where
  pub count : all ≡ length list
  pub below : AreSlotsBelow all places
  pub rising : AreRising places
  pub twos : (j : ℕ) → IsBeside places all j → length (clause_at list j) ≡ 2
