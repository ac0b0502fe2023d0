-- How a clause is found that may become pending, and which clauses of two literals are put into the set.
use Rattle.std.specs.Prelude.{◌≡◌, ℕ, ◌*◌, ◌<◌, ◌⊎◌, List, true, false, length, slice_index}
use Rattle.clause_base.specs.Clause.{has_literal}
use Rattle.bit_sets.specs.Layered.{words_have}
use Rattle.clause_base.specs.declared.pair.Pair.{Pair}
use Rattle.cdcl_tables.specs.Origin.{ListsView}
use Rattle.clause_base.specs.Pairs.{pair_in}
use Rattle.cdcl_tables.specs.Pairs.{IsInPairs, IsPairOf, AreExact}
use Rattle.propagation.specs.declared.pending.Pending.{Pending}
use Rattle.cdcl_defs.specs.State.{clause_at}

-- the clause with a number has a slot
pub record HasSlot (slots : List ℕ) (number : ℕ) : Type 0 where
  pub slot : ℕ
  pub inside : slot < length slots
  pub is : slice_index slots slot ≡ number

-- a clause that is not watched: it is in the lists of its two literals, or has fewer
abbrev pub IsUnwatched : List (List Pair) → List ℕ → ℕ → Type 0
IsUnwatched pairs clause number = IsInPairs pairs clause number ⊎ (length clause < 2)

-- what holds of the pairs: each clause of two literals or more is in the lists of its two literals or has a slot
pub record IsPaired (variables : ℕ) (clauses : List (List ℕ)) (slots : List ℕ) (pairs : List (List Pair)) : Type 0 where
  pub long : length pairs ≡ 2 * variables
  pub found : (c : ℕ) → c < length clauses → IsUnwatched pairs (clause_at clauses c) c ⊎ HasSlot slots c
  pub exact : AreExact clauses pairs

-- the pairs of a list are of clauses with this literal
abbrev pub ArePairsOf : List (List ℕ) → ℕ → List Pair → Type 0
ArePairsOf clauses code pairs = (i : ℕ) → i < length pairs → IsPairOf clauses code (pair_in pairs i)

-- the clauses of the pairs of a list whose other literal is not true are in the set
abbrev pub AreMarked : List ℕ → List Pair → Pending → Type 0
AreMarked trail pairs p = (i : ℕ) → i < length pairs → has_literal trail (pair_in pairs i).other ≡ false → words_have p.numbers (pair_in pairs i).number ≡ true

-- so are those of the lists of a literal that are of steps and times
pub record AreAllPairsOf (clauses : List (List ℕ)) (code : ℕ) (lists : ListsView) : Type 0 where
  pub last : ArePairsOf clauses code lists.last
  pub next : ArePairsOf clauses code lists.next
  pub time : ArePairsOf clauses code lists.time

-- the clauses of the three lists of steps and times are in the set where they may be pending
pub record AreAllMarked (trail : List ℕ) (lists : ListsView) (p : Pending) : Type 0 where
  pub last : AreMarked trail lists.last p
  pub next : AreMarked trail lists.next p
  pub time : AreMarked trail lists.time p
