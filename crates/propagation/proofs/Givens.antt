-- The tables of a formula's clauses, as they are made and once they are.
use Rattle.std.proofs.Common.{arith, ◌≡◌, ◌≢◌, ◌==◌, ℕ, zero, suc, ◌+◌, ◌-◌, ◌*◌, ◌<◌, ◌≤◌, List, [], ◌∷◌, ◌++◌, length, take, set, replicate, get_or}
use Rattle.std.proofs.Common.{leb, ltb, Bool, true, false, not, ◌||◌, All, None, refl, sym, ap, ◌∙◌, subst, ◌⊎◌, inl, inr, length-set}
use Rattle.std.proofs.Common.{get_or-set_same, get_or-set_other}
use Rattle.std.proofs.lemmas.Bool.Decides.{nat_tests}
use Rattle.std.proofs.lemmas.List.{map-append, length_push, get_or_push, get_or_append_left, get_or-replicate, length-replicate}
use Rattle.std.proofs.lemmas.List.Elements.{All-get_or}
use Rattle.std.proofs.lemmas.Grind.{replicate_next}
use Rattle.clause_base.specs.Clause.{IsClause, HasVariablesBelow, has_literal}
use Rattle.cdcl_defs.specs.Pending.{is_pending}
use Rattle.cdcl_defs.specs.State.{clause_at}
use Rattle.bit_sets.specs.Layered.{words_have}
use Rattle.cdcl_tables.specs.Mirrored.{TrailView}
use Rattle.clause_base.specs.declared.pair.Pair.{Pair}
use Rattle.cdcl_tables.specs.Pairs.{IsIndex}
use Rattle.cdcl_tables.specs.Linked.{IsLinked}
use Rattle.propagation.specs.declared.given.Given.{Given}
use Rattle.propagation.specs.declared.pending.Pending.{Pending}
use Rattle.cdcl_tables.specs.Stored.{StoreView, CanReadAll}
use Rattle.propagation.specs.declared.tables.Tables.{Tables}
use Rattle.propagation.specs.declared.visit.WatchState.{WatchState}
use Rattle.propagation.specs.own.Asks.{IsAsk, IsPut}
use Rattle.propagation.specs.own.Added.{AreWider, RestsWith}
use Rattle.propagation.specs.own.Given.{AreGiven, AreRising, IsBeside}
use Rattle.propagation.specs.own.Pairs.{HasSlot, IsUnwatched, IsPaired}
use Rattle.propagation.specs.own.Visit.{slot_clauses, slot_flags, AreSlotsBelow, IsFit, IsReal}
use Rattle.propagation.specs.own.Sound.{AreSound}
use Rattle.propagation.specs.own.Steps.{AreStepped}
use Rattle.propagation.proofs.Filters.{clause_is, clause_past, none_lawful, pending_off}
use Rattle.propagation.proofs.published.Assigns.{equal_of, apart_of, at_most_of, past_of}
use Rattle.propagation.proofs.published.Adds.{kept_in}
use Rattle.propagation.proofs.Asks.{consistent_none, pending_kept}
use Rattle.propagation.proofs.Enters.{below_by, short_by}
use Rattle.propagation.proofs.Slotted.{slots_long, below_more}
use Rattle.propagation.proofs.Wider.{rest_wider}

-- the tables of no clause
pub given_none : (codes : ℕ) (cl : List (List ℕ)) (g : Given) → g.slots.items ≡ []
    → IsLinked g.lists.chains.heads.items g.lists.chains.nodes.items (λ k. None) → length g.lists.chains.heads.items ≡ codes
    → ((k : ℕ) → words_have g.lists.pending.numbers k ≡ false) → length cl ≤ 64 * length g.lists.pending.numbers
    → length cl ≤ length g.lists.pending.asks.items → AreGiven codes cl 0 g
given_none codes cl g e linked long none wide asks = record {
  slotted = λ s h. absurd (omega (arith, h, no_slots));
  few = omega (arith, no_slots);
  rest = record {
    on = λ k. None;
    linked = linked;
    long = omega (arith, none_slotted);
    codes = long;
    many = omega (arith, none_slotted);
    real = λ node l e. absurd (let w : ⊥ = cc in w);
    there = λ node real must. absurd (no_node node real);
    blockings = λ node real. absurd (no_node node real);
    apart = λ node real e. no_node node real;
  };
  longs = λ c h. absurd (omega (arith, h));
  shorts = λ c h. absurd (omega (arith, h));
  only = λ c h. absurd (let z : true ≡ false = sym h ∙ none c in let w : ⊥ = cc in w);
  asks = λ c h. absurd (let z : true ≡ false = sym h ∙ none c in let w : ⊥ = cc in w);
  room = wide;
  long = asks;
}
  where
    no_slots : length g.slots.items ≡ 0
    no_slots = ap (λ (ss : List ℕ). length ss) e

    none_slotted : length (slot_clauses cl g.slots.items) ≡ 0
    none_slotted = slots_long cl g.slots.items ∙ no_slots

    no_node : (node : ℕ) → IsReal (slot_clauses cl g.slots.items) node → ⊥
    no_node node real = absurd (omega (arith, real.below, none_slotted))

-- a test of a number up to the next one
next_by : (P : ℕ → Type 0) (n : ℕ) → ((c : ℕ) → c < n → P c) → P n → (c : ℕ) → c < n + 1 → P c
next_by P n old own c h = by (c == n) refl
  where
    by : (b : Bool) → (c == n) ≡ b → P c
    by true f = subst P (sym (equal_of c n f)) own
    by false f = let ne : c ≢ n = apart_of c n f in old c (omega (arith, h, ne))

-- the next clause has two literals
pub given_two : (codes : ℕ) (cl : List (List ℕ)) (n : ℕ) (g : Given) → AreGiven codes cl n g → length (clause_at cl n) ≡ 2 → AreGiven codes cl (n + 1) g
given_two codes cl n g i two = record {
  slotted = λ s h. omega (arith, i.slotted s h);
  few = omega (arith, i.few);
  rest = i.rest;
  longs = next_by (λ c. 2 < length (clause_at cl c) → HasSlot g.slots.items c) n i.longs (λ h. absurd (omega (arith, h, two)));
  shorts = next_by (λ c. length (clause_at cl c) < 2 → words_have g.lists.pending.numbers c ≡ true) n i.shorts (λ h. absurd (omega (arith, h, two)));
  only = λ c h. let o = i.only c h in (omega (arith, o.0), o.1);
  asks = i.asks;
  room = i.room;
  long = i.long;
}

-- all up to a number have
given_twos : (codes : ℕ) (cl : List (List ℕ)) (n k m : ℕ) (g : Given) → AreGiven codes cl n g → m ≡ n + k
    → ((c : ℕ) → n ≤ c → c < m → length (clause_at cl c) ≡ 2) → AreGiven codes cl m g
given_twos codes cl n zero m g i e two = subst (λ (x : ℕ). AreGiven codes cl x g) (let f : n ≡ m = omega (arith, e) in f) i
given_twos codes cl n (suc k) m g i e two =
    given_twos codes cl (n + 1) k m g (given_two codes cl n g i (two n (omega arith) (omega (arith, e)))) (omega (arith, e)) (λ c h l. two c (omega (arith, h)) l)

-- those of a part up to a place before which there is no other of the places that are not passed by
pub given_passed : (codes : ℕ) (cl : List (List ℕ)) (first next to index count : ℕ) (places : List ℕ) (g : Given) → AreGiven codes cl (first + next) g
    → next ≤ to → to ≤ count → ((j : ℕ) → IsBeside places count j → length (clause_at cl (first + j)) ≡ 2)
    → ((i : ℕ) → i < index → get_or places i 0 < next) → ((i : ℕ) → index ≤ i → i < length places → to ≤ get_or places i 0)
    → AreGiven codes cl (first + to) g
given_passed codes cl first next to index count places g i up within twos past ahead =
    given_twos codes cl (first + next) (to - next) (first + to) g i (omega (arith, up))
    (λ c h l. subst (λ (n : ℕ). length (clause_at cl n) ≡ 2) (let e : first + (c - first) ≡ c = omega (arith, h) in e) (twos (c - first) (between c h l)))
  where
    between : (c : ℕ) → first + next ≤ c → c < first + to → IsBeside places count (c - first)
    between c h l = record {
      below = omega (arith, h, l, within);
      apart = λ s g e. by s g e (leb index s) refl;
    }
      where
        by : (s : ℕ) → s < length places → get_or places s 0 ≡ c - first → (b : Bool) → leb index s ≡ b → ⊥
        by s g e true f = absurd (omega (arith, h, l, e, ahead s (at_most_of index s f) g))
        by s g e false f = absurd (omega (arith, h, l, e, past s (past_of index s f)))

-- the places from one on, and those up to it, are in order
pub ahead_of : (places : List ℕ) (index to : ℕ) → AreRising places → to ≡ get_or places index 0 → (i : ℕ) → index ≤ i → i < length places
    → to ≤ get_or places i 0
ahead_of places index to rising e i h g = by (i == index) refl
  where
    by : (b : Bool) → (i == index) ≡ b → to ≤ get_or places i 0
    by true f = omega (arith, e, ap (λ (k : ℕ). get_or places k 0) (equal_of i index f))
    by false f = let ne : i ≢ index = apart_of i index f in omega (arith, e, rising index i (omega (arith, h, ne)) g)

pub past_next : (places : List ℕ) (index to : ℕ) → AreRising places → index < length places → to ≡ get_or places index 0 → (i : ℕ) → i < index + 1
    → get_or places i 0 < to + 1
past_next places index to rising inside e i h = by (i == index) refl
  where
    by : (b : Bool) → (i == index) ≡ b → get_or places i 0 < to + 1
    by true f = omega (arith, e, ap (λ (k : ℕ). get_or places k 0) (equal_of i index f))
    by false f = let ne : i ≢ index = apart_of i index f in omega (arith, e, rising i index (omega (arith, h, ne)) inside)

-- it has fewer
pub given_short : (codes : ℕ) (cl : List (List ℕ)) (n ask : ℕ) (g : Given) (p : Pending) → AreGiven codes cl n g → length (clause_at cl n) < 2
    → n < length cl → ((on : ℕ → Bool) → IsAsk on (clause_at cl n) ask) → IsPut n ask g.lists.pending p
    → AreGiven codes cl (n + 1) (record g { lists = record g.lists { pending = p } })
given_short codes cl n ask g p i short inside is put = record {
  slotted = λ s h. omega (arith, i.slotted s h);
  few = omega (arith, i.few);
  rest = i.rest;
  longs = next_by (λ c. 2 < length (clause_at cl c) → HasSlot g.slots.items c) n i.longs (λ h. absurd (omega (arith, h, short)));
  shorts = next_by (λ c. length (clause_at cl c) < 2 → words_have p.numbers c ≡ true) n (λ c h t. put.has c ∙ stays (c == n) (i.shorts c h t))
      (λ h. put.has n ∙ ap (λ (b : Bool). b || words_have g.lists.pending.numbers n) same);
  only = λ c h. by c (c == n) refl (sym (put.has c) ∙ h);
  asks = λ c h on. asked c on (c == n) refl (sym (put.has c) ∙ h);
  room = omega (arith, i.room, put.room);
  long = omega (arith, ap (λ (xs : List ℕ). length xs) put.asks, length-set g.lists.pending.asks.items n ask, i.long);
}
  where
    same : (n == n) ≡ true
    same = grind (arith, nat_tests)

    stays : (b : Bool) → {c : Bool} → c ≡ true → (b || c) ≡ true
    stays true e = refl
    stays false e = e

    by : (c : ℕ) (b : Bool) → (c == n) ≡ b → (b || words_have g.lists.pending.numbers c) ≡ true → (c < n + 1) × (length (clause_at cl c) < 2)
    by c true f h =
        let e : c ≡ n = equal_of c n f in (omega (arith, e), subst (λ (k : ℕ). length (clause_at cl k) < 2) (sym e) short)
    by c false f h = let o = i.only c h in (omega (arith, o.0), o.1)

    asked : (c : ℕ) (on : ℕ → Bool) (b : Bool) → (c == n) ≡ b → (b || words_have g.lists.pending.numbers c) ≡ true
        → IsAsk on (clause_at cl c) (get_or p.asks.items c 0)
    asked c on true f h =
        let e : c ≡ n = equal_of c n f in
        let v : get_or p.asks.items c 0 ≡ ask =
        ap (λ (xs : List ℕ). get_or xs c 0) put.asks ∙ ap (λ (k : ℕ). get_or (set g.lists.pending.asks.items n ask) k 0) e
        ∙ get_or-set_same g.lists.pending.asks.items n ask 0 (omega (arith, inside, i.long)) in
        subst (λ (x : ℕ). IsAsk on (clause_at cl c) x) (sym v) (subst (λ (k : ℕ). IsAsk on (clause_at cl k) ask) (sym e) (is on))
    asked c on false f h =
        let v : get_or p.asks.items c 0 ≡ get_or g.lists.pending.asks.items c 0 =
        ap (λ (xs : List ℕ). get_or xs c 0) put.asks ∙ get_or-set_other g.lists.pending.asks.items n c ask 0 (apart_of c n f) in
        subst (λ (x : ℕ). IsAsk on (clause_at cl c) x) (sym v) (i.asks c h on)

-- it has more, and the next slot
pub given_long : (codes : ℕ) (cl : List (List ℕ)) (n : ℕ) (g g' : Given) → AreGiven codes cl n g → 2 < length (clause_at cl n)
    → g'.slots.items ≡ g.slots.items ++ n ∷ [] → g'.lists.pending ≡ g.lists.pending
    → RestsWith (clause_at cl n) (length g.slots.items) codes g.lists g'.lists → AreGiven codes cl (n + 1) g'
given_long codes cl n g g' i long e same rests = record {
  slotted = rw e (below_more n g.slots.items n refl i.slotted);
  few = omega (arith, i.few, ap (λ (ss : List ℕ). length ss) e, length_push g.slots.items n);
  rest = rw (e, map-append (λ (k : ℕ). clause_at cl k) g.slots.items (n ∷ []), flags)
      (rests (slot_clauses cl g.slots.items) (replicate (length g.slots.items) true) (slots_long cl g.slots.items) (long_flags (length g.slots.items)) i.rest);
  longs = rw e (next_by (λ c. 2 < length (clause_at cl c) → HasSlot (g.slots.items ++ n ∷ []) c) n (λ c h t. stays c (i.longs c h t)) (λ h. record {
    slot = length g.slots.items;
    inside = omega (arith, length_push g.slots.items n);
    is = get_or_push g.slots.items n 0 (length g.slots.items) refl;
  }));
  shorts = rw same (next_by (λ c. length (clause_at cl c) < 2 → words_have g.lists.pending.numbers c ≡ true) n i.shorts (λ h. absurd (omega (arith, h, long))));
  only = rw same (λ c h. let o = i.only c h in (omega (arith, o.0), o.1));
  asks = rw same i.asks;
  room = rw same i.room;
  long = rw same i.long;
}
  where
    flags : replicate (length (g.slots.items ++ n ∷ [])) true ≡ replicate (length g.slots.items) true ++ true ∷ []
    flags = ap (λ (k : ℕ). replicate k true) (length_push g.slots.items n) ∙ replicate_next (length g.slots.items) true

    long_flags : (k : ℕ) → length (replicate k true) ≡ k
    long_flags zero = refl
    long_flags (suc k) = omega (arith, long_flags k)

    stays : (c : ℕ) → HasSlot g.slots.items c → HasSlot (g.slots.items ++ n ∷ []) c
    stays c s = record {
      slot = s.slot;
      inside = omega (arith, s.inside, length_push g.slots.items n);
      is = get_or_append_left g.slots.items (n ∷ []) 0 s.slot s.inside ∙ s.is;
    }

-- with more room
pub given_wider : (codes : ℕ) (cl : List (List ℕ)) (n : ℕ) (g : Given) (l : WatchState) → n ≤ length cl → AreGiven codes cl n g → AreWider g.lists l
    → AreGiven codes cl n (record g { lists = l })
given_wider codes cl n g l few i w = record {
  slotted = i.slotted;
  few = i.few;
  rest = rest_wider (slot_clauses cl g.slots.items) g.lists l codes (replicate (length g.slots.items) true) i.rest w;
  longs = i.longs;
  shorts = λ c h t. w.pending.same c ∙ i.shorts c h t;
  only = λ c h. i.only c (sym (w.pending.same c) ∙ h);
  asks = λ c h on.
      let was = sym (w.pending.same c) ∙ h in
      subst (λ (x : ℕ). IsAsk on (clause_at cl c) x) (sym (w.pending.asks c (omega (arith, (i.only c was).0, few, i.long)))) (i.asks c was on);
  room = omega (arith, i.room, w.pending.more_numbers);
  long = omega (arith, i.long, w.pending.more_asks);
}

-- before any literal is true just clauses of fewer than two literals are pending
pending_is_short : (xs : List ℕ) → is_pending (has_literal []) xs ≡ true → length xs < 2
pending_is_short [] h = omega arith
pending_is_short (x ∷ []) h = omega arith
pending_is_short (x ∷ y ∷ xs) h =
    let z : true ≡ false = sym h ∙ pending_off (has_literal []) (x ∷ y ∷ xs) (omega arith) in absurd (let w : ⊥ = cc in w)

all_true : (n k : ℕ) → k < n → get_or (replicate n true) k false ≡ true
all_true zero k h = absurd (omega (arith, h))
all_true (suc n) zero h = refl
all_true (suc n) (suc k) h = all_true n k (omega (arith, h))

flags_all : (n : ℕ) (slots : List ℕ) → AreSlotsBelow n slots → slot_flags (replicate n true) slots ≡ replicate (length slots) true
flags_all n [] h = refl
flags_all n (m ∷ slots) h =
    ap (λ (b : Bool). b ∷ slot_flags (replicate n true) slots) (all_true n m (h 0 (omega arith)))
    ∙ ap (λ (bs : List Bool). true ∷ bs) (flags_all n slots (λ s g. h (suc s) (omega (arith, g))))

take_none : (n l : ℕ) → has_literal (take n []) l ≡ false
take_none zero l = refl
take_none (suc n) l = refl

pub sound_given : (v : ℕ) (t : Tables) (g : Given) (trail : List ℕ) (quiet : List Bool) → v ≤ 2147483647 → length t.store.clauses ≤ 1073741824
    → IsFit t.store.clauses (2 * v) → t.kept.items ≡ replicate (length t.store.clauses) true → t.kept_below ≡ length t.store.clauses → t.slots.items ≡ g.slots.items → trail ≡ []
    → AreGiven (2 * v) t.store.clauses (length t.store.clauses) g → length quiet ≡ v + 1 → AreStepped t.store.clauses t.slots.items t.steps
    → CanReadAll t.store → length t.store.packed ≡ length t.store.clauses → AreSound v t g.lists trail quiet
sound_given v t g trail quiet small few fit ek eb es et i size steps read packed = record {
  small = small;
  tables = record {
    limit = omega (arith, small);
    fit = fit;
    small = omega (arith, few);
    kept = ap (λ (ks : List Bool). length ks) ek ∙ long_flags (length t.store.clauses);
    read = λ n on. read n;
    packed = packed;
    whole = rw (ek, eb) (λ k h. get_or-replicate (length t.store.clauses) k true false h);
    slotted = rw es i.slotted;
    few = rw es (omega (arith, i.few, few));
    steps = steps;
  };
  few = omega (arith, few);
  slots_few = rw es i.few;
  rest = rw (es, ek, flags_all (length t.store.clauses) g.slots.items i.slotted) i.rest;
  free = rw et (λ n h node real must none two. ap (λ (b : Bool). not b) (take_none n _));
  consistent = consistent_none trail et;
  asks = rw et (record {
    within = λ k h. (i.only k h).0;
    are = λ k h. i.asks k h (has_literal []);
    room = i.room;
    long = omega (arith, i.long);
  });
  complete = rw (et, ek) (λ k p.
      i.shorts k (omega (
        arith,
        kept_in (replicate (length t.store.clauses) true) k (is_pending (has_literal []) (clause_at t.store.clauses k)) p,
        long_flags
            (length t.store.clauses),
      )) (pending_is_short (clause_at t.store.clauses k) (pending_kept t.store.clauses (replicate (length t.store.clauses) true) [] k p)));
  quiet_size = size;
  quiets = rw et (λ n h. absurd (omega (arith, h)));
}
  where
    long_flags : (k : ℕ) → length (replicate k true) ≡ k
    long_flags zero = refl
    long_flags (suc k) = omega (arith, long_flags k)

pub paired_given : (v : ℕ) (cl : List (List ℕ)) (g : Given) (ps : List (List Pair)) → AreGiven (2 * v) cl (length cl) g → IsIndex v cl ps
    → IsPaired v cl g.slots.items ps
paired_given v cl g ps made i = record {
  long = i.long;
  found = λ c h. by c h (leb 2 (length (clause_at cl c))) refl (length (clause_at cl c) == 2) refl;
  exact = i.exact;
}
  where
    by : (c : ℕ) → c < length cl → (a : Bool) → leb 2 (length (clause_at cl c)) ≡ a → (b : Bool) → (length (clause_at cl c) == 2) ≡ b
        → IsUnwatched ps (clause_at cl c) c ⊎ HasSlot g.slots.items c
    by c h false e b f = inl (inr (past_of 2 (length (clause_at cl c)) e))
    by c h true e true f = inl (inl (i.found c h (equal_of (length (clause_at cl c)) 2 f)))
    by c h true e false f =
        let ne : length (clause_at cl c) ≢ 2 = apart_of (length (clause_at cl c)) 2 f in
        inr (made.longs c h (omega (arith, at_most_of 2 (length (clause_at cl c)) e, ne)))

-- the clauses of a formula are in a clause's form and short enough, and their literals are below the codes
pub fit_given : (v : ℕ) (cl : List (List ℕ)) → v ≤ 2147483647 → All IsClause cl → All (HasVariablesBelow v) cl → IsFit cl (2 * v)
fit_given v cl small lawful below = record {
  below = λ c p h. below_at c p h (ltb c (length cl)) refl;
  short = λ c. short_at c (ltb c (length cl)) refl;
  lawful = λ c. lawful_at c (ltb c (length cl)) refl;
}
  where
    is : (c : ℕ) → clause_at cl c ≡ get_or cl c []
    is c = clause_is cl c

    under : (c : ℕ) → c < length cl → HasVariablesBelow v (clause_at cl c)
    under c g = subst (HasVariablesBelow v) (sym (is c)) (All-get_or (HasVariablesBelow v) cl c [] g below)

    law : (c : ℕ) → c < length cl → IsClause (clause_at cl c)
    law c g = subst IsClause (sym (is c)) (All-get_or IsClause cl c [] g lawful)

    below_at : (c p : ℕ) → p < length (clause_at cl c) → (b : Bool) → ltb c (length cl) ≡ b → get_or (clause_at cl c) p 0 < 2 * v
    below_at c p h true e = let g : c < length cl = grind (arith, nat_tests) in below_by v p (clause_at cl c) (under c g) h
    below_at c p h false e =
        let g : length cl ≤ c = grind (arith, nat_tests) in
        absurd (omega (arith, h, ap (λ (xs : List ℕ). length xs) (clause_past cl c g)))

    short_at : (c : ℕ) (b : Bool) → ltb c (length cl) ≡ b → length (clause_at cl c) ≤ 4294967295
    short_at c true e = let g : c < length cl = grind (arith, nat_tests) in short_by v (clause_at cl c) small (law c g) (under c g)
    short_at c false e =
        let g : length cl ≤ c = grind (arith, nat_tests) in
        omega (arith, ap (λ (xs : List ℕ). length xs) (clause_past cl c g))

    lawful_at : (c : ℕ) (b : Bool) → ltb c (length cl) ≡ b → IsClause (clause_at cl c)
    lawful_at c true e = let g : c < length cl = grind (arith, nat_tests) in law c g
    lawful_at c false e = let g : length cl ≤ c = grind (arith, nat_tests) in subst IsClause (sym (clause_past cl c g)) none_lawful

-- so are those of a store with a copy of them
pub fit_store : (n v : ℕ) (store clauses : List (List ℕ)) → n ≡ v → store ≡ clauses → v ≤ 2147483647 → All IsClause clauses
    → All (HasVariablesBelow v) clauses → IsFit store (2 * n)
fit_store n v store clauses e s small lawful below = rw (e, s) (fit_given v clauses small lawful below)

-- the empty trail over so many variables
pub empty_over : (t : TrailView) (n v : ℕ) → (let w : TrailView = record { variables = n; entries = [] } in t ≡ w) → n ≡ v
    → (let w : TrailView = record { variables = v; entries = [] } in t ≡ w)
empty_over t n v e h = e ∙ ap (λ (k : ℕ). let w : TrailView = record { variables = k; entries = [] } in w) h

-- none is packed
none_packed : (k n : ℕ) → get_or (replicate k false) n false ≡ false
none_packed zero n = refl
none_packed (suc k) zero = refl
none_packed (suc k) (suc n) = none_packed k n

-- so the literals of each clause of a new store can be read
pub read_new : (store : StoreView) (cl : List (List ℕ)) → store ≡ record { clauses = cl; packed = replicate (length cl) false } → CanReadAll store
read_new store cl e n = ap (λ (s : StoreView). get_or s.packed n false) e ∙ none_packed (length cl) n

pub packed_new : (store : StoreView) (cl : List (List ℕ)) → store ≡ record { clauses = cl; packed = replicate (length cl) false } → length store.packed ≡ length store.clauses
packed_new store cl e = ap (λ (s : StoreView). length s.packed) e ∙ length-replicate (length cl) false ∙ sym (ap (λ (s : StoreView). length s.clauses) e)
