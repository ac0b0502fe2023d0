-- The tables where the trail is taken back: the watched literals stay right, and the set is found anew.
use Rattle.std.proofs.Common.{arith, ◌≡◌, ℕ, zero, suc, [], ◌∷◌, ◌*◌, ◌≤◌, List, Bool, length, take, refl, sym, ap, ◌∙◌, subst}
use Rattle.std.proofs.lemmas.List.{take_all, take-take, take-map, length-take-le, length-map}
use Rattle.cdcl_defs.specs.declared.trail.Assigned.{Assigned}
use Rattle.cdcl_tables.specs.Assignment.{AssignmentView, literals}
use Rattle.cdcl_tables.proofs.published.Assignments.{literals_back, back_le}
use Rattle.propagation.specs.declared.undo.Back.{Back}
use Rattle.propagation.specs.declared.undo.Back.TheVariants.{Length, Level}
use Rattle.propagation.specs.own.Back.{taken_back}
use Rattle.propagation.specs.declared.pending.Pending.{Pending}
use Rattle.propagation.specs.declared.tables.Tables.{Tables}
use Rattle.propagation.specs.declared.visit.WatchState.{WatchState}
use Rattle.propagation.specs.own.Asks.{HasAsks, IsConsistent}
use Rattle.propagation.specs.Front.{AreRead, IsComplete, StayWhere}
use Rattle.propagation.specs.own.Sound.{AreFree, AreSound}
use Rattle.propagation.specs.own.Tables.{AreTables, clauses_in, flags_in, pending_in}
use Rattle.propagation.proofs.Asks.{consistent_take}
use Rattle.propagation.proofs.Knowns.{stay_complete}

-- a trail that is taken back is a prefix
take_taken : (n : ℕ) (xs : List ℕ) → take (length (take n xs)) xs ≡ take n xs
take_taken zero xs = refl
take_taken (suc n) [] = refl
take_taken (suc n) (x ∷ xs) = ap (λ (ys : List ℕ). x ∷ ys) (take_taken n xs)

pub short_of : (to : Back) (old new : List Assigned) → new ≡ taken_back to old → literals new ≡ take (length new) (literals old)
short_of (Length n) old new e =
    let t : literals new ≡ take n (literals old) = ap literals e ∙ sym (take-map (λ (a : Assigned). a.literal) n old) in
    let l : length new ≡ length (take n (literals old)) = (let m = ap (λ (xs : List ℕ). length xs) t in omega (arith, m, length-map new (λ (a : Assigned). a.literal))) in
    t ∙ sym (take_taken n (literals old)) ∙ ap (λ (i : ℕ). take i (literals old)) (sym l)
short_of (Level level) old new e =
    ap literals e ∙ sym (literals_back level old) ∙ ap (λ (es : List Assigned). take (length es) (literals old)) (sym e)

take_le : (n : ℕ) (entries : List Assigned) → length (take n entries) ≤ length entries
take_le zero entries = omega arith
take_le (suc n) [] = omega arith
take_le (suc n) (a ∷ entries) = omega (arith, take_le n entries)

pub taken_le : (to : Back) (entries : List Assigned) → length (taken_back to entries) ≤ length entries
taken_le (Length n) entries = take_le n entries
taken_le (Level level) entries = back_le level entries

-- on a shorter trail the watches are right with no work
pub undo_sound : (v : ℕ) (t : Tables) (l : WatchState) (trail : List ℕ) (quiet : List Bool) (m : ℕ) (trail' : List ℕ) (p : Pending)
    → AreSound v t l trail quiet → trail' ≡ take m trail → m ≤ length trail → HasAsks t.store.clauses trail' p → IsComplete (pending_in t trail') p
    → AreSound v t (record l { pending = p }) trail' quiet
undo_sound v t l trail quiet m trail' p i e h asks complete = record {
  small = i.small;
  tables = i.tables;
  few = i.few;
  slots_few = i.slots_few;
  rest = i.rest;
  free = λ n b. subst (λ (xs : List ℕ). AreFree (clauses_in t) l.chains.nodes.items (flags_in t) xs) (sym (shorter n (omega (arith, b, long)))) (i.free n (omega (arith, b, long, h)));
  consistent = subst IsConsistent (sym e) (consistent_take m trail i.consistent);
  asks = asks;
  complete = complete;
  quiet_size = i.quiet_size;
  quiets = λ n b q k. ap (λ (xs : List ℕ). pending_in t xs k) (shorter n (omega (arith, b, long))) ∙ i.quiets n (omega (arith, b, long, h)) q k;
}
  where
    long : length trail' ≡ m
    long = ap (λ (xs : List ℕ). length xs) e ∙ length-take-le m trail h

    shorter : (n : ℕ) → n ≤ m → take n trail' ≡ take n trail
    shorter n b = ap (λ (xs : List ℕ). take n xs) e ∙ take-take n m trail b

-- the set alone is another
pub sound_set : (v : ℕ) (t : Tables) (l : WatchState) (trail : List ℕ) (quiet : List Bool) (p : Pending) → AreSound v t l trail quiet
    → HasAsks t.store.clauses trail p → IsComplete (pending_in t trail) p → AreSound v t (record l { pending = p }) trail quiet
sound_set v t l trail quiet p i asks complete = undo_sound v t l trail quiet (length trail) trail p i (sym (take_all (length trail) trail (omega arith))) (omega arith) asks complete

-- the assignment of the trail tells what holds of the tables
pub read_as : (v : ℕ) (t : Tables) (l : WatchState) (trail : List ℕ) (quiet : List Bool) (n : ℕ) (a : AssignmentView) → AreSound v t l trail quiet → n ≡ v
    → a ≡ record { variables = n; trail = trail } → AreRead t a l.pending
read_as v t l trail quiet n a i e f =
    subst (λ (b : AssignmentView). AreRead t b l.pending) (sym f)
    (record { tables = subst (λ (m : ℕ). AreTables t (2 * m)) (sym e) i.tables; consistent = i.consistent; asks = i.asks })

-- of the set members go that are not pending
pub sound_stay : (v : ℕ) (t : Tables) (l : WatchState) (trail : List ℕ) (quiet : List Bool) (n : ℕ) (a : AssignmentView) (p : Pending)
    → AreSound v t l trail quiet → a ≡ record { variables = n; trail = trail } → HasAsks t.store.clauses a.trail p
    → StayWhere (pending_in t a.trail) l.pending p → AreSound v t (record l { pending = p }) trail quiet
sound_stay v t l trail quiet n a p i f asks stay =
    let e : a.trail ≡ trail = ap (λ (b : AssignmentView). b.trail) f in
    sound_set v t l trail quiet p i (subst (λ (xs : List ℕ). HasAsks t.store.clauses xs p) e asks)
    (stay_complete (pending_in t trail) l.pending p i.complete (subst (λ (xs : List ℕ). StayWhere (pending_in t xs) l.pending p) e stay))
