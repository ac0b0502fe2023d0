-- Tables with more room say what they did.
use Rattle.std.proofs.Common.{arith, ◌≡◌, ℕ, ◌*◌, ◌/◌, ◌≤◌, List, length, take, Bool, sym, ap, ◌∙◌, Some}
use Rattle.clause_base.specs.Literal.{opposite}
use Rattle.clause_base.specs.Clause.{has_literal}
use Rattle.cdcl_tables.proofs.published.Mirrors.{half_opposite}
use Rattle.cdcl_tables.specs.Linked.{blocking_of}
use Rattle.cdcl_tables.specs.Stored.{StoreView, CanReadKept}
use Rattle.propagation.specs.declared.pending.Pending.{Pending}
use Rattle.propagation.specs.declared.tables.Tables.{Tables}
use Rattle.propagation.specs.declared.visit.WatchState.{WatchState}
use Rattle.propagation.specs.Pending.{is_free}
use Rattle.cdcl_defs.specs.State.{clause_at}
use Rattle.propagation.specs.own.Visit.{literal_at, IsReal, IsAtRest}
use Rattle.propagation.specs.own.Asks.{IsWider}
use Rattle.propagation.specs.Front.{IsComplete}
use Rattle.propagation.specs.own.Tables.{clauses_in, flags_in, pending_in}
use Rattle.propagation.specs.own.Sound.{AreSound}
use Rattle.propagation.specs.own.Added.{AreSame, AreWider}
use Rattle.propagation.proofs.AsksKept.{asks_wider}

-- a node of a clause is in the table of nodes, and so is the other one of its slot
literal_wider : (cl : List (List ℕ)) (l l' : WatchState) (node : ℕ) → AreWider l l' → 2 * length cl ≤ length l.chains.nodes.items → IsReal cl node
    → literal_at l'.chains.nodes.items node ≡ literal_at l.chains.nodes.items node
literal_wider cl l l' node w m real = w.blockings (opposite node) (omega (arith, real.below, half_opposite node, m))

pub rest_wider : (cl : List (List ℕ)) (l l' : WatchState) (spare : ℕ) (kept : List Bool)
    → IsAtRest cl l.resume_at.items l.chains.heads.items l.chains.nodes.items spare kept → AreWider l l'
    → IsAtRest cl l'.resume_at.items l'.chains.heads.items l'.chains.nodes.items spare kept
rest_wider cl l l' spare kept r w = record {
  on = r.on;
  linked = w.linked r.on r.linked;
  long = omega (arith, r.long, w.more_froms);
  codes = w.codes ∙ r.codes;
  many = omega (arith, r.many, w.more_nodes);
  real = r.real;
  there = λ node real must. r.there node real must ∙ ap (λ (c : ℕ). Some c) (sym (literal_wider cl l l' node w r.many real));
  blockings = λ node real. ap (λ (x : ℕ). has_literal (clause_at cl (node / 2)) x) (same node real) ∙ r.blockings node real;
  apart = λ node real e. r.apart node real (sym (same node real) ∙ e ∙ literal_wider cl l l' node w r.many real);
}
  where
    same : (node : ℕ) → IsReal cl node → blocking_of l'.chains.nodes.items node ≡ blocking_of l.chains.nodes.items node
    same node real = w.blockings node (omega (arith, real.below, r.many))

complete_wider : (passes : ℕ → Bool) (p p' : Pending) → IsWider p p' → IsComplete passes p → IsComplete passes p'
complete_wider passes p p' w c k e = w.same k ∙ c k e

-- there is more room
sound_wider : (v : ℕ) (t : Tables) (l l' : WatchState) (trail : List ℕ) (quiet : List Bool) → AreSound v t l trail quiet → AreWider l l'
    → AreSound v t l' trail quiet
sound_wider v t l l' trail quiet i w = record {
  small = i.small;
  tables = i.tables;
  few = i.few;
  slots_few = i.slots_few;
  rest = rest_wider (clauses_in t) l l' (2 * v) (flags_in t) i.rest w;
  free = λ n h node real must none two. ap (λ (x : ℕ). is_free (has_literal (take n trail)) x) (literal_wider (clauses_in t) l l' node w i.rest.many real) ∙ i.free n h node real must none two;
  consistent = i.consistent;
  asks = asks_wider t.store.clauses trail l.pending l'.pending i.asks w.pending;
  complete = complete_wider (pending_in t trail) l.pending l'.pending w.pending i.complete;
  quiet_size = i.quiet_size;
  quiets = i.quiets;
}

-- the tables that are read are the same, and the literals of kept clauses can be read
pub sound_packed : (v : ℕ) (t t' : Tables) (l : WatchState) (trail : List ℕ) (quiet : List Bool) → AreSound v t l trail quiet → t'.store.clauses ≡ t.store.clauses
    → t'.kept.items ≡ t.kept.items → t'.kept_below ≡ t.kept_below → t'.slots.items ≡ t.slots.items → t'.steps ≡ t.steps → CanReadKept t'.kept.items t'.store
    → length t'.store.packed ≡ length t'.store.clauses → AreSound v t' l trail quiet
sound_packed v t t' l trail quiet i store kept kept_below slots steps read packed = record {
  small = i.small;
  tables = record {
    limit = i.tables.limit;
    fit = rw store i.tables.fit;
    small = rw store i.tables.small;
    kept = rw (store, kept) i.tables.kept;
    whole = rw (kept, kept_below) i.tables.whole;
    read = read;
    packed = packed;
    slotted = rw (store, slots) i.tables.slotted;
    few = rw slots i.tables.few;
    steps = rw (store, slots, steps) i.tables.steps;
  };
  few = rw store i.few;
  slots_few = rw (store, slots) i.slots_few;
  rest = rw (store, slots, kept) i.rest;
  free = rw (store, slots, kept) i.free;
  consistent = i.consistent;
  asks = rw store i.asks;
  complete = rw (store, kept) i.complete;
  quiet_size = i.quiet_size;
  quiets = rw (store, kept) i.quiets;
}

-- the tables that are read are the same
pub sound_again : (v : ℕ) (t t' : Tables) (l : WatchState) (trail : List ℕ) (quiet : List Bool) → AreSound v t l trail quiet → AreSame t t'
    → AreSound v t' l trail quiet
sound_again v t t' l trail quiet i e = sound_packed v t t' l trail quiet i (ap (λ (s : StoreView). s.clauses) e.store) e.kept e.kept_below e.slots e.steps
    (rw (e.store, e.kept) i.tables.read) (rw e.store i.tables.packed)

-- and so where room was made
pub sound_room : (v : ℕ) (t t' : Tables) (l l' : WatchState) (trail : List ℕ) (quiet : List Bool) → AreSound v t l trail quiet → AreSame t t'
    → AreWider l l' → AreSound v t' l' trail quiet
sound_room v t t' l l' trail quiet i e w = sound_again v t t' l' trail quiet (sound_wider v t l l' trail quiet i w) e
