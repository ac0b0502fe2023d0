use Rattle.std.specs.Prelude.{◌≡◌, ℕ, ◌*◌, ◌/◌, ◌<◌, ◌≤◌, ◌⊎◌, List, ◌∷◌, length, Bool, true, false, Option, Some, slice_index, slice_index_or, map}
use Rattle.std.specs.List.{list_any}
use Rattle.clause_base.specs.Literal.{opposite}
use Rattle.clause_base.specs.Clause.{IsClause, has_literal}
use Rattle.cdcl_defs.specs.State.{clause_at}
use Rattle.cdcl_tables.specs.declared.chains.Node.{Node}
use Rattle.cdcl_tables.specs.declared.chains.Place.{Place}
use Rattle.cdcl_tables.specs.Linked.{IsLinked, blocking_of, has}
use Rattle.cdcl_tables.specs.Walk.{IsWalk}
use Rattle.bit_sets.specs.Layered.{words_have}
use Rattle.propagation.specs.declared.visit.WatchState.{WatchState}
use Rattle.propagation.specs.declared.tables.Tables.{Tables}
use Rattle.propagation.specs.Pending.{is_free, has_two_free}
use Rattle.cdcl_defs.specs.Pending.{is_pending}

-- clauses that are watched have a slot each, with the number of the clause; the clauses of the slots, which of them are kept,
-- and which are in a set of numbers of clauses
abbrev pub slot_clauses : List (List ℕ) → List ℕ → List (List ℕ)
slot_clauses clauses slots = map (λ n. clause_at clauses n) slots

-- for each slot whether its clause is kept
abbrev pub slot_flags : List Bool → List ℕ → List Bool
slot_flags kept slots = map (λ n. slice_index_or kept n false) slots

-- the clause of a slot is in a set of clauses
abbrev pub slot_set : (ℕ → Bool) → List ℕ → ℕ → Bool
slot_set set slots s = set (slice_index slots s)

-- the slots are of clauses whose numbers are below this one
abbrev pub AreSlotsBelow : ℕ → List ℕ → Type 0
AreSlotsBelow n slots = (s : ℕ) → s < length slots → slice_index slots s < n

-- the literal that a node watches: each node of a slot has that of the other as its blocking literal, and the two are numbered as
-- the two literals of a variable are
abbrev pub literal_at : List Node → ℕ → ℕ
literal_at nodes node = blocking_of nodes (opposite node)

-- the literals of the clauses are below a number, and each clause is short enough for its places and is in a clause's form
pub record IsFit (clauses : List (List ℕ)) (codes : ℕ) : Type 0 where
  pub below : (c p : ℕ) → p < length (clause_at clauses c) → slice_index (clause_at clauses c) p < codes
  pub short : (c : ℕ) → length (clause_at clauses c) ≤ 4294967295
  pub lawful : (c : ℕ) → IsClause (clause_at clauses c)

-- a node is of a clause with two literals or more
pub record IsReal (clauses : List (List ℕ)) (node : ℕ) : Type 0 where
  pub below : node / 2 < length clauses
  pub long : 2 ≤ length (clause_at clauses (node / 2))

-- the clause with a number is kept
abbrev pub IsNodeKept : List Bool → ℕ → Type 0
IsNodeKept kept node = slice_index_or kept (node / 2) false ≡ true

-- each node of a kept clause is on the chain of its watched literal, and the two watched literals of a clause are two of its own: so a
-- clause is met wherever one of these becomes false
pub record IsAtRest (clauses : List (List ℕ)) (resume_at : List ℕ) (heads : List ℕ) (nodes : List Node) (limit : ℕ) (kept : List Bool) : Type 0 where
  pub on : ℕ → Option ℕ
  pub linked : IsLinked heads nodes on
  pub long : length clauses ≤ length resume_at
  pub codes : length heads ≡ limit
  pub many : 2 * length clauses ≤ length nodes
  pub real : (node l : ℕ) → on node ≡ Some l → IsReal clauses node
  pub there : (node : ℕ) → IsReal clauses node → IsNodeKept kept node → on node ≡ Some (literal_at nodes node)
  pub blockings : (node : ℕ) → IsReal clauses node → has_literal (clause_at clauses (node / 2)) (blocking_of nodes node) ≡ true
  pub apart : (node : ℕ) → IsReal clauses node → blocking_of nodes node ≡ blocking_of nodes (opposite node) → ⊥

-- a clause that may watch a false literal: it has no two that are not false, and where it is pending it is in the set
pub record IsSettled (on : ℕ → Bool) (set : ℕ → Bool) (clause : List ℕ) (c : ℕ) : Type 0 where
  pub not_loose : list_any on clause ≡ false → has_two_free on clause ≡ false
  pub in_set : is_pending on clause ≡ true → set c ≡ true

-- each node watches what it did, or a literal that is not false
abbrev pub MovesToFree : List (List ℕ) → List Node → List Node → (ℕ → Bool) → Type 0
MovesToFree clauses nodes nodes' on =
    (node : ℕ) → IsReal clauses node → (literal_at nodes' node ≡ literal_at nodes node) ⊎ (is_free on (literal_at nodes' node) ≡ true)

-- nothing leaves a set
abbrev pub Grows : (ℕ → Bool) → (ℕ → Bool) → Type 0
Grows set set' = (k : ℕ) → set k ≡ true → set' k ≡ true

-- after a visit each kept clause that still watches the literal is settled
abbrev pub AllSettled : List (List ℕ) → List Node → (ℕ → Bool) → (ℕ → Bool) → ℕ → List Bool → Type 0
AllSettled clauses nodes on set code kept =
    (node : ℕ) → IsReal clauses node → IsNodeKept kept node → literal_at nodes node ≡ code → IsSettled on set (clause_at clauses (node / 2)) (node / 2)

-- A walk along the chain of a literal that is false: each node of a kept clause is on the chain of its watched literal at any time, and
-- the clauses behind the place of the walk that are kept and stay there are settled. So all are once the walk is at the end.
pub record IsVisiting (clauses : List (List ℕ)) (resume_at heads : List ℕ) (nodes : List Node) (codes : ℕ) (kept : List Bool) (on set : ℕ → Bool) (code : ℕ)
    (rest : List ℕ) (place : Place) : Type 0 where
  pub listed : IsAtRest clauses resume_at heads nodes codes kept
  pub walk : IsWalk heads nodes listed.on code rest place
  pub settled : (node : ℕ) → listed.on node ≡ Some code → IsNodeKept kept node
      → (has rest node ≡ true) ⊎ IsSettled on set (clause_at clauses (node / 2)) (node / 2)

-- so do the tables of a propagator stand at a place of a walk
abbrev pub AreVisited : Tables → WatchState → List ℕ → ℕ → ℕ → List ℕ → Place → Type 0
AreVisited t l trail codes code rest place =
    IsVisiting (slot_clauses t.store.clauses t.slots.items) l.resume_at.items l.chains.heads.items l.chains.nodes.items codes (slot_flags t.kept.items t.slots.items)
    (has_literal trail) (slot_set (words_have l.pending.numbers) t.slots.items) code rest place

-- past a node at a place of a walk they stand at the next place
abbrev pub GoesOn : Tables → WatchState → WatchState → List ℕ → ℕ → ℕ → Place → Place → Type 0
GoesOn t old new trail codes code place next =
    (rest : List ℕ) → AreVisited t old trail codes code (place.node ∷ rest) place → AreVisited t new trail codes code rest next

-- the clauses of the slots that still watch a literal are settled
abbrev pub AreSettled : Tables → WatchState → List ℕ → ℕ → Type 0
AreSettled t l trail code =
    AllSettled (slot_clauses t.store.clauses t.slots.items) l.chains.nodes.items (has_literal trail) (slot_set (words_have l.pending.numbers) t.slots.items) code
    (slot_flags t.kept.items t.slots.items)
