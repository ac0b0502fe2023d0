-- What holds of the tables of a propagator.
use Rattle.std.specs.Prelude.{◌≡◌, ℕ, ◌+◌, ◌*◌, ◌/◌, ◌<◌, ◌≤◌, List, take, length, Bool, true, false, slice_index_or}
use Rattle.std.specs.List.{list_any}
use Rattle.clause_base.specs.Clause.{has_literal}
use Rattle.propagation.specs.declared.tables.Tables.{Tables}
use Rattle.propagation.specs.declared.visit.WatchState.{WatchState}
use Rattle.cdcl_tables.specs.declared.chains.Node.{Node}
use Rattle.propagation.specs.own.Asks.{IsConsistent, HasAsks}
use Rattle.propagation.specs.Front.{IsComplete}
use Rattle.propagation.specs.Pending.{is_free, has_two_free}
use Rattle.propagation.specs.own.Tables.{AreTables, clauses_in, flags_in, pending_in}
use Rattle.cdcl_defs.specs.State.{clause_at}
use Rattle.propagation.specs.own.Visit.{literal_at, IsReal, IsNodeKept, IsAtRest}

-- where a clause has no true literal and two that are not false, its watched literals are not false
abbrev pub AreFree : List (List ℕ) → List Node → List Bool → List ℕ → Type 0
AreFree clauses nodes kept trail =
    (node : ℕ) → IsReal clauses node → IsNodeKept kept node → list_any (has_literal trail) (clause_at clauses (node / 2)) ≡ false → has_two_free
    (has_literal trail) (clause_at clauses (node / 2)) ≡ true → is_free (has_literal trail) (literal_at nodes node) ≡ true

-- What holds of all tables, over a trail of literals and the flags of its lengths. The watched literals of each clause are right in
-- each prefix of the trail (`free`), so that nothing is done for them where it is taken back; each clause that is kept and pending
-- is in the set (`complete`), so that the least of them is the least member that is kept and pending; where the flag of a length
-- is set, nothing is pending there (`quiets`), so that no clause is looked at where the trail is taken back to it.
pub record AreSound (variables : ℕ) (t : Tables) (l : WatchState) (trail : List ℕ) (quiet : List Bool) : Type 0 where
  pub small : variables ≤ 2147483647
  pub tables : AreTables t (2 * variables)
  pub few : length t.store.clauses ≤ 2147483647
  pub slots_few : length t.slots.items ≤ length t.store.clauses
  pub rest : IsAtRest (clauses_in t) l.resume_at.items l.chains.heads.items l.chains.nodes.items (2 * variables) (flags_in t)
  pub free : (n : ℕ) → n ≤ length trail → AreFree (clauses_in t) l.chains.nodes.items (flags_in t) (take n trail)
  pub consistent : IsConsistent trail
  pub asks : HasAsks t.store.clauses trail l.pending
  pub complete : IsComplete (pending_in t trail) l.pending
  pub quiet_size : length quiet ≡ variables + 1
  pub quiets : (n : ℕ) → n < length trail → slice_index_or quiet n false ≡ true → (c : ℕ) → pending_in t (take n trail) c ≡ false
