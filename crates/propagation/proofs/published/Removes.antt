-- A clause that is no longer kept: what held of kept clauses holds of fewer.
use Rattle.std.proofs.Common.{arith, ◌≡◌, ℕ, zero, suc, List, [], ◌∷◌, ◌*◌, length, take, set, get_or, Bool, true, false, ◌&&◌, refl, sym, ap, ◌∙◌, length-set, get_or-set_other, ◌≤◌}
use Rattle.clause_base.specs.Clause.{has_literal}
use Rattle.cdcl_tables.specs.Stored.{StoreView, CanReadKept}
use Rattle.propagation.specs.declared.tables.Tables.{Tables}
use Rattle.propagation.specs.declared.visit.WatchState.{WatchState}
use Rattle.propagation.specs.Pending.{is_pending_on}
use Rattle.cdcl_defs.specs.Pending.{is_pending}
use Rattle.cdcl_defs.specs.State.{clause_at}
use Rattle.propagation.specs.own.Visit.{slot_flags}
use Rattle.propagation.specs.own.Sound.{AreSound}
use Rattle.propagation.specs.own.Tables.{AreTables}
use Rattle.propagation.proofs.Filters.{pending_at}

kept_before : (kept : List Bool) (n k : ℕ) → get_or (set kept n false) k false ≡ true → get_or kept k false ≡ true
kept_before [] n k e = e
kept_before (b ∷ kept) zero zero e = cc
kept_before (b ∷ kept) zero (suc k) e = e
kept_before (b ∷ kept) (suc n) zero e = e
kept_before (b ∷ kept) (suc n) (suc k) e = kept_before kept n k e

-- fewer kept ones can be read
pub fewer_read : (kept : List Bool) (store : StoreView) (n : ℕ) → CanReadKept kept store → CanReadKept (set kept n false) store
fewer_read kept store n read = λ k e. read k (kept_before kept n k e)

-- so of the slots
flags_before : (kept : List Bool) (slots : List ℕ) (n s : ℕ) → get_or (slot_flags (set kept n false) slots) s false ≡ true
    → get_or (slot_flags kept slots) s false ≡ true
flags_before kept [] n s e = e
flags_before kept (m ∷ slots) n zero e = kept_before kept n m e
flags_before kept (m ∷ slots) n (suc s) e = flags_before kept slots n s e

and_by : (a b c : Bool) → (a ≡ true → c ≡ true) → (a && b) ≡ true → (c && b) ≡ true
and_by true b c h e = let t : c ≡ true = h refl in ap (λ (x : Bool). x && b) t ∙ e
and_by false b c h e = cc

pub pending_before : (cl : List (List ℕ)) (kept : List Bool) (trail : List ℕ) (n k : ℕ) → is_pending_on cl (set kept n false) trail k ≡ true
    → is_pending_on cl kept trail k ≡ true
pending_before cl kept trail n k e = pending_at cl kept trail k ∙ and_by (get_or (set kept n false) k false)
    (is_pending (has_literal trail) (clause_at cl k)) (get_or kept k false) (kept_before kept n k) (sym (pending_at cl (set kept n false) trail k) ∙ e)

none_by : (a b : Bool) → (b ≡ true → a ≡ true) → a ≡ false → b ≡ false
none_by a true h e = let t : a ≡ true = h refl in sym t ∙ e
none_by a false h e = refl

-- the tables with other flags
tables_removed : (t t' : Tables) (codes n : ℕ) → AreTables t codes → t'.store.clauses ≡ t.store.clauses → t'.slots.items ≡ t.slots.items
    → t'.kept.items ≡ set t.kept.items n false → t'.steps ≡ t.steps → t'.kept_below ≤ t.kept_below → t'.kept_below ≤ n
    → CanReadKept t'.kept.items t'.store → length t'.store.packed ≡ length t'.store.clauses → AreTables t' codes
tables_removed t t' codes n i store slots kept steps less below read packed = record {
  read = read;
  packed = packed;
  limit = i.limit;
  fit = rw store i.fit;
  small = rw store i.small;
  kept = omega (arith, ap (λ (ks : List Bool). length ks) kept, length-set t.kept.items n false, i.kept, ap (λ (cs : List (List ℕ)). length cs) store);
  whole = rw kept (λ k h. get_or-set_other t.kept.items n k false false (λ (q : k ≡ n). absurd (omega (arith, q, h, below))) ∙ i.whole k (omega (arith, h, less)));
  slotted = rw (store, slots) i.slotted;
  few = rw slots i.few;
  steps = rw (store, slots, steps) i.steps;
}

pub removed_sound : (v : ℕ) (t t' : Tables) (l : WatchState) (trail : List ℕ) (quiet : List Bool) (n : ℕ) → AreSound v t l trail quiet → t'.store.clauses ≡ t.store.clauses
    → t'.slots.items ≡ t.slots.items → t'.kept.items ≡ set t.kept.items n false → t'.steps ≡ t.steps
    → t'.kept_below ≤ t.kept_below → t'.kept_below ≤ n
    → CanReadKept t'.kept.items t'.store → length t'.store.packed ≡ length t'.store.clauses → AreSound v t' l trail quiet
removed_sound v t t' l trail quiet n i store slots kept steps less below read packed = record {
  small = i.small;
  tables = tables_removed t t' (2 * v) n i.tables store slots kept steps less below read packed;
  few = rw store i.few;
  slots_few = rw (store, slots) i.slots_few;
  rest = rw (store, slots, kept) (record {
    on = i.rest.on;
    linked = i.rest.linked;
    long = i.rest.long;
    codes = i.rest.codes;
    many = i.rest.many;
    real = i.rest.real;
    there = λ node real must. i.rest.there node real (flags_before t.kept.items t.slots.items n _ must);
    blockings = i.rest.blockings;
    apart = i.rest.apart;
  });
  free = rw (store, slots, kept) (λ m h node real must. i.free m h node real (flags_before t.kept.items t.slots.items n _ must));
  consistent = i.consistent;
  asks = rw store i.asks;
  complete = rw (store, kept) (λ c p. i.complete c (pending_before t.store.clauses t.kept.items trail n c p));
  quiet_size = i.quiet_size;
  quiets = rw (store, kept) (λ m h q c. none_by (is_pending_on t.store.clauses t.kept.items (take m trail) c)
      (is_pending_on t.store.clauses (set t.kept.items n false) (take m trail) c) (pending_before t.store.clauses t.kept.items (take m trail) n c) (i.quiets m h q c));
}
