-- All that holds of the tables holds with a new clause, and with one literal more that is true.
use Rattle.std.proofs.Common.{arith, ◌≡◌, ℕ, zero, suc, ◌*◌, ◌<◌, ◌≤◌, List, [], ◌∷◌, ◌++◌, length, get_or, leb, Bool, true, false, refl, sym, ap, ◌∙◌, subst}
use Rattle.std.proofs.lemmas.List.{length_push}
use Rattle.clause_base.specs.Clause.{has_literal, IsClause, HasVariablesBelow}
use Rattle.propagation.specs.declared.enter.Entered.{Entered}
use Rattle.propagation.specs.declared.pending.Pending.{Pending}
use Rattle.propagation.specs.declared.tables.Tables.{Tables}
use Rattle.propagation.specs.declared.visit.WatchState.{WatchState}
use Rattle.propagation.specs.own.Asks.{IsAsk}
use Rattle.propagation.specs.own.Tables.{AreTables}
use Rattle.propagation.specs.own.Visit.{AreSlotsBelow}
use Rattle.propagation.specs.own.Sound.{AreSound}
use Rattle.propagation.specs.own.Added.{IsTaken, IsQuietBelow, IsRaised}
use Rattle.propagation.proofs.published.Assigns.{at_most_of, past_of}
use Rattle.propagation.proofs.published.Adds.{fit_add, quiets_add}
use Rattle.propagation.proofs.AsksKept.{asks_add}
use Rattle.propagation.proofs.Enters.{below_by, short_by, complete_add}
use Rattle.propagation.proofs.Stepped.{stepped_add}
use Rattle.propagation.proofs.Slotted.{taken_rest, taken_free, taken_below, taken_few}

-- the flags of the lengths below the result stand where the new clause is not pending
quiet_off : (quiet quiet' : List Bool) (low len n : ℕ) → n < len → get_or quiet' n false ≡ true
    → ((m : ℕ) → m < low → get_or quiet' m false ≡ get_or quiet m false) → ((m : ℕ) → low ≤ m → m < len → get_or quiet' m false ≡ false)
    → (get_or quiet n false ≡ true) × (n < low)
quiet_off quiet quiet' low len n h q below off = by (leb low n) refl
  where
    by : (b : Bool) → leb low n ≡ b → (get_or quiet n false ≡ true) × (n < low)
    by true e = let z : true ≡ false = sym q ∙ off n (at_most_of low n e) h in absurd (let w : ⊥ = cc in w)
    by false e = (sym (below n (past_of low n e)) ∙ q, past_of low n e)

-- what was done for a new clause
pub record IsAddedTo (v : ℕ) (t : Tables) (l : WatchState) (trail : List ℕ) (quiet : List Bool) (k : List ℕ) (number : ℕ) (entered : Entered) (t' : Tables)
    (l' : WatchState) (p : Pending) (quiet' : List Bool) : Type 0 where
  pub lawful : IsClause k
  pub below : HasVariablesBelow v k
  pub numbered : number ≡ length t.store.clauses
  pub few : number < 2147483647
  pub room : number < 64 * length l.pending.numbers
  pub long : number < length l.pending.asks.items
  pub store : t'.store.clauses ≡ t.store.clauses ++ k ∷ []
  pub packed : t'.store.packed ≡ t.store.packed ++ false ∷ []
  pub steps : t'.steps ≡ t.steps
  pub kept : t'.kept.items ≡ t.kept.items ++ true ∷ []
  pub kept_below : t'.kept_below ≡ t.kept_below
  pub taken : IsTaken k number (2 * v) trail t.slots.items l t'.slots.items l'
  pub calm : IsQuietBelow k trail entered.low
  pub ask : entered.low ≤ length trail → IsAsk (has_literal trail) k entered.ask
  pub raised : IsRaised trail number entered l.pending p
  pub size : length quiet' ≡ length quiet
  pub same : (n : ℕ) → n < entered.low → get_or quiet' n false ≡ get_or quiet n false
  pub off : (n : ℕ) → entered.low ≤ n → n < length trail → get_or quiet' n false ≡ false

-- a clause that is not packed is added: each kept one can be read as before
read_add : (kept packed : List Bool) → length kept ≡ length packed → ((n : ℕ) → get_or kept n false ≡ true → get_or packed n false ≡ false) → (n : ℕ)
    → get_or (kept ++ true ∷ []) n false ≡ true → get_or (packed ++ false ∷ []) n false ≡ false
read_add [] [] e read zero on = refl
read_add [] [] e read (suc n) on = refl
read_add [] (p ∷ packed) e read n on = absurd (omega (arith, e))
read_add (k ∷ kept) [] e read n on = absurd (omega (arith, e))
read_add (k ∷ kept) (p ∷ packed) e read zero on = read zero on
read_add (k ∷ kept) (p ∷ packed) e read (suc n) on = read_add kept packed (omega (arith, e)) (λ m is. read (suc m) is) n on

-- a clause that was kept is so beside a new one
kept_push : (kept : List Bool) (n : ℕ) → get_or kept n false ≡ true → get_or (kept ++ true ∷ []) n false ≡ true
kept_push [] n e = absurd (let w : ⊥ = cc in w)
kept_push (b ∷ kept) zero e = e
kept_push (b ∷ kept) (suc n) e = kept_push kept n e

tables_add : (v : ℕ) (t : Tables) (l : WatchState) (trail : List ℕ) (quiet : List Bool) (k : List ℕ) (number : ℕ) (entered : Entered) (t' : Tables) (l' : WatchState) (p : Pending) (quiet' : List Bool)
    → AreSound v t l trail quiet → IsAddedTo v t l trail quiet k number entered t' l' p quiet' → AreTables t' (2 * v)
tables_add v t l trail quiet k number entered t' l' p quiet' i a = record {
  limit = i.tables.limit;
  read = rw (a.kept, a.packed) (read_add t.kept.items t.store.packed (i.tables.kept ∙ sym i.tables.packed) i.tables.read);
  packed = omega (arith, ap (λ (ps : List Bool). length ps) a.packed, length_push t.store.packed false, i.tables.packed, ap (λ (cs : List (List ℕ)). length cs) a.store, length_push t.store.clauses k);
  fit = rw a.store (fit_add t.store.clauses k (2 * v) i.tables.fit (λ q b. below_by v q k a.below b) (short_by v k i.small a.lawful a.below) a.lawful);
  small = omega (arith, ap (λ (cs : List (List ℕ)). length cs) a.store, length_push t.store.clauses k, i.few);
  kept = omega (arith, ap (λ (ks : List Bool). length ks) a.kept, length_push t.kept.items true, i.tables.kept, ap (λ (cs : List (List ℕ)). length cs) a.store, length_push t.store.clauses k);
  whole = rw (a.kept, a.kept_below) (λ n h. kept_push t.kept.items n (i.tables.whole n h));
  slotted = subst (λ (n : ℕ). AreSlotsBelow n t'.slots.items) (sym (ap (λ (cs : List (List ℕ)). length cs) a.store ∙ length_push t.store.clauses k))
      (taken_below (length t.store.clauses) k number (2 * v) trail t.slots.items l t'.slots.items l' a.numbered a.taken i.tables.slotted);
  few = omega (arith, i.few, i.slots_few, taken_few k number (2 * v) trail t.slots.items l t'.slots.items l' a.taken);
  steps = rw (a.store, a.steps) (stepped_add t.store.clauses k number (2 * v) trail t.slots.items l t'.slots.items l' t.steps a.taken i.tables.steps);
}

-- all that holds of the tables holds with the new clause
pub sound_add : (v : ℕ) (t : Tables) (l : WatchState) (trail : List ℕ) (quiet : List Bool) (k : List ℕ) (number : ℕ) (entered : Entered) (t' : Tables) (l' : WatchState) (p : Pending) (quiet' : List Bool)
    → AreSound v t l trail quiet → IsAddedTo v t l trail quiet k number entered t' l' p quiet'
    → AreSound v t' (record l' { pending = p }) trail quiet'
sound_add v t l trail quiet k number entered t' l' p quiet' i a = record {
  small = i.small;
  tables = tables_add v t l trail quiet k number entered t' l' p quiet' i a;
  few = omega (arith, ap (λ (cs : List (List ℕ)). length cs) a.store, length_push t.store.clauses k, a.numbered, a.few);
  slots_few = omega (arith, ap (λ (cs : List (List ℕ)). length cs) a.store, length_push t.store.clauses k, i.slots_few, taken_few k number (2 * v) trail t.slots.items l t'.slots.items l' a.taken);
  rest = rw (a.store, a.kept) (taken_rest t.store.clauses k t.kept.items number (2 * v) trail t.slots.items l t'.slots.items l' i.tables.kept a.numbered i.tables.slotted a.taken i.rest);
  free = rw (a.store, a.kept) (λ n h. taken_free t.store.clauses k t.kept.items number (2 * v) trail t.slots.items l t'.slots.items l' n i.tables.kept a.numbered i.tables.slotted a.taken h (i.free n h));
  consistent = i.consistent;
  asks = rw a.store (asks_add t.store.clauses k trail number entered l.pending p i.asks a.numbered a.room a.long a.raised a.ask);
  complete = rw (a.store, a.kept) (complete_add t.store.clauses k t.kept.items trail number entered l.pending p i.tables.kept a.numbered i.complete a.raised a.calm);
  quiet_size = a.size ∙ i.quiet_size;
  quiets = rw (a.store, a.kept) (quiets_add t.store.clauses k t.kept.items trail quiet quiet' i.tables.kept i.quiets
      (λ n h q. let o = quiet_off quiet quiet' entered.low (length trail) n h q a.same a.off in (o.0, a.calm n (omega (arith, h)) o.1)));
}
