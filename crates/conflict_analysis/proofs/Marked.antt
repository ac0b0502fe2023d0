-- A clause by marks over a trail, where a literal is put in or taken out.
use Rattle.std.proofs.Common.{arith, ◌≡◌, ◌==◌, ℕ, zero, suc, ◌+◌, ◌*◌, ◌/◌, ◌<◌, ◌≤◌, List, [], ◌∷◌, length, map, set, take, get_or, replicate, ◌%◌, Some, None, Bool, true, false, not, ◌||◌, ◌&&◌, refl, sym, ap, ◌∙◌, subst, filter, fold, if◌then◌else◌, All, zero-add, ◌⊎◌, inl, inr}
use Rattle.std.specs.List.{range_with_len}
use Rattle.std.proofs.lemmas.List.{length-map, get_or_past}
use Rattle.std.proofs.lemmas.Bool.{cases_lt}
use Rattle.clause_base.specs.Literal.{opposite}
use Rattle.containers.specs.Rising.{put}
use Rattle.clause_base.specs.Clause.{has_literal, IsRising}
use Rattle.clause_base.proofs.published.ClauseLemmas.{IsBefore, rising-cons}
use Rattle.clause_base.proofs.published.Rising.{rising_unique}
use Rattle.cdcl_defs.specs.declared.trail.Assigned.{Assigned}
use Rattle.cdcl_defs.specs.State.{is_on, decision_count}
use Rattle.cdcl_defs.specs.Learn.{level_of, current}
use Rattle.cdcl_defs.proofs.published.Tests.{same_test, test_same}
use Rattle.cdcl_defs.proofs.published.WalkLaw.{opposite_twice}
use Rattle.cdcl_tables.specs.Assignment.{literals}
use Rattle.cdcl_tables.specs.Mirrored.{TrailView, AreApart}
use Rattle.cdcl_tables.proofs.published.Levels.{level_at}
use Rattle.cdcl_tables.proofs.published.Mirrors.{half_opposite}
use Rattle.bit_sets.proofs.published.WordLaw.{zero_has}
use Rattle.bit_sets.specs.Layered.{words_have, word_has}
use Rattle.bit_sets.specs.Marks.{places, at}
use Rattle.bit_sets.proofs.published.Places.{bit, put_again, in_places, IsFrom, from_places}
use Rattle.conflict_analysis.specs.own.Resolvent.{MarksView, AreMarks, IsClear, IsLatest, seen, is_marked}
use Rattle.conflict_analysis.proofs.Marks.{table, table_at, table_len, table_put, table_remove, marked_at, marked_none, marked_more, back_by}
use Rattle.conflict_analysis.proofs.Resolvents.{is_now, put_literals, left_literals, over_put, over_remove, counted_one}
use Rattle.conflict_analysis.proofs.Walking.{code_below, entry_below}

-- a literal whose negation stands at a position of the trail
pub record StandsAt (w : TrailView) (position l : ℕ) : Type 0 where
  pub apart : AreApart (literals w.entries)
  pub within : position < length w.entries
  pub place : get_or (literals w.entries) position 0 ≡ opposite l
  pub below : l / 2 < w.variables

negation : (w : TrailView) (position l : ℕ) → StandsAt w position l → opposite (get_or (literals w.entries) position 0) ≡ l
negation w position l s = ap opposite s.place ∙ opposite_twice l

inside : (w : TrailView) (position l : ℕ) → StandsAt w position l → position < length (literals w.entries)
inside w position l s = let h = s.within in omega (arith, h, length-map w.entries (λ (x : Assigned). x.literal))

small_code : (n l : ℕ) → l / 2 < n → l < 2 * n
small_code n l h = omega (arith, h)

-- marks as their owner has them
pub viewed : (w : TrailView) {words : List ℕ} {count : ℕ} {m : MarksView} → (let x : MarksView = record { words = words; count = count } in x) ≡ m → AreMarks w m → AreMarks w (record { words = words; count = count })
viewed w is o = subst (AreMarks w) (sym is) o

-- there is room for a mark at each position
pub room_at : (w : TrailView) (words : List ℕ) (count position : ℕ) {m : MarksView} → (let x : MarksView = record { words = words; count = count } in x) ≡ m → AreMarks w m → position < length w.entries → length w.entries ≤ w.variables → position < 64 * length words
room_at w words count position is o h short = let room = (viewed w is o).room in omega (arith, room, h, short)

-- it is in the clause just where its position is marked
pub seen_at : (w : TrailView) (m : MarksView) (position l : ℕ) → StandsAt w position l → at (seen w m).on l ≡ words_have m.words position
seen_at w m position l s =
    table_at (2 * w.variables) (literals w.entries) (words_have m.words) l (small_code w.variables l s.below)
    ∙ ap (is_marked (words_have m.words) 0 (literals w.entries)) (sym (negation w position l s))
    ∙ marked_at (words_have m.words) position (literals w.entries) s.apart (inside w position l s)

-- one that is marked is in
pub put_marked : (w : TrailView) (m : MarksView) (position l : ℕ) → StandsAt w position l → words_have m.words position ≡ true → places 0 (seen w m).on ≡ put (places 0 (seen w m).on) l
put_marked w m position l s e =
    let long = table_len (2 * w.variables) (literals w.entries) (words_have m.words) in
    put_again (seen w m).on l (omega (arith, long, small_code w.variables l s.below)) (seen_at w m position l s ∙ e)

seen_put : (w : TrailView) (m : MarksView) (words : List ℕ) (more position l : ℕ) → StandsAt w position l → ((k : ℕ) → words_have words k ≡ ((k == position) || words_have m.words k)) → (seen w (record { words = words; count = more })).on ≡ set (seen w m).on l true
seen_put w m words more position l s e =
    table_put (2 * w.variables) (literals w.entries) (words_have m.words) (words_have words) position l (inside w position l s) (negation w position l s) (small_code w.variables l s.below) e

-- a further one
pub put_over : (w : TrailView) (m : MarksView) (words : List ℕ) (more position l : ℕ) (b : Bool) → StandsAt w position l → AreMarks w m → is_on w.entries (opposite l) ≡ true → words_have m.words position ≡ false → length words ≡ length m.words
    → ((k : ℕ) → words_have words k ≡ ((k == position) || words_have m.words k)) → is_now w.entries l ≡ b → more ≡ m.count + bit b → AreMarks w (record { words = words; count = more })
put_over w m words more position l b s o false_here off size e now count =
    let r = o.room in
    record {
      room = omega (arith, r, size);
      beyond = λ p h. e p ∙ ap (λ (c : Bool). c || words_have m.words p) (apart_from p (p == position) refl h) ∙ o.beyond p h;
      over = over_put w (seen w m) (seen w m) (seen w (record { words = words; count = more })).on more l b refl o.over s.below (seen_put w m words more position l s e) (seen_at w m position l s ∙ off) false_here now count;
    }
  where
    apart_from : (p : ℕ) (c : Bool) → (p == position) ≡ c → length w.entries ≤ p → c ≡ false
    apart_from p true f h = let t = test_same p position f in let i = s.within in absurd (omega (arith, t, h, i))
    apart_from p false f h = refl

pub put_seen : (w : TrailView) (m : MarksView) (words : List ℕ) (more position l : ℕ) → StandsAt w position l → AreMarks w m → ((k : ℕ) → words_have words k ≡ ((k == position) || words_have m.words k))
    → places 0 (seen w (record { words = words; count = more })).on ≡ put (places 0 (seen w m).on) l
put_seen w m words more position l s o e = put_literals w (seen w m) (seen w m) (seen w (record { words = words; count = more })).on l refl o.over s.below (seen_put w m words more position l s e)

seen_remove : (w : TrailView) (m : MarksView) (words : List ℕ) (less position l : ℕ) → StandsAt w position l → words_have m.words position ≡ true → ((k : ℕ) → words_have words k ≡ (not (k == position) && words_have m.words k)) → (seen w (record { words = words; count = less })).on ≡ set (seen w m).on l false
seen_remove w m words less position l s on e =
    table_remove (2 * w.variables) (literals w.entries) (words_have words) (words_have m.words) position l s.apart (inside w position l s) (negation w position l s) (small_code w.variables l s.below) on e

-- one less
pub remove_over : (w : TrailView) (m : MarksView) (words : List ℕ) (less position l : ℕ) (b : Bool) → StandsAt w position l → AreMarks w m → words_have m.words position ≡ true → length words ≡ length m.words
    → ((k : ℕ) → words_have words k ≡ (not (k == position) && words_have m.words k)) → is_now w.entries l ≡ b → m.count ≡ less + bit b → AreMarks w (record { words = words; count = less })
remove_over w m words less position l b s o on size e now count =
    let r = o.room in
    record {
      room = omega (arith, r, size);
      beyond = λ p h. e p ∙ none (not (p == position)) (words_have m.words p) (o.beyond p h);
      over = over_remove w (seen w m) (seen w m) (seen w (record { words = words; count = less })).on less l b refl o.over s.below (seen_remove w m words less position l s on e) (seen_at w m position l s ∙ on) now count;
    }
  where
    none : (a c : Bool) → c ≡ false → (a && c) ≡ false
    none true c f = f
    none false c f = refl

pub remove_seen : (w : TrailView) (m : MarksView) (words : List ℕ) (less position l : ℕ) → StandsAt w position l → AreMarks w m → words_have m.words position ≡ true → ((k : ℕ) → words_have words k ≡ (not (k == position) && words_have m.words k))
    → places 0 (seen w (record { words = words; count = less })).on ≡ filter (λ k. not (k == l)) (places 0 (seen w m).on)
remove_seen w m words less position l s o on e = left_literals w (seen w m) (seen w m) (seen w (record { words = words; count = less })).on l refl o.over s.below (seen_remove w m words less position l s on e)

-- a marked literal of the current level is counted
pub counted_mark : (w : TrailView) (m : MarksView) (position l : ℕ) → StandsAt w position l → AreMarks w m → words_have m.words position ≡ true → is_now w.entries l ≡ true → 1 ≤ m.count
counted_mark w m position l s o on now = counted_one w (seen w m) (seen w m) l refl o.over s.below (seen_at w m position l s ∙ on) now

-- one literal of a clause of which all but one are put in
pub other_next : (ls new lits rest : List ℕ) (l but : ℕ) → lits ≡ l ∷ rest → new ≡ (if l == but then ls else put ls l) → fold put ls (filter (λ m. not (m == but)) lits) ≡ fold put new (filter (λ m. not (m == but)) rest)
other_next ls new lits rest l but e f = ap (λ (xs : List ℕ). fold put ls (filter (λ m. not (m == but)) xs)) e ∙ by (l == but) refl ∙ ap (λ (xs : List ℕ). fold put xs (filter (λ m. not (m == but)) rest)) (sym f)
  where
    by : (b : Bool) → (l == but) ≡ b → fold put ls (filter (λ m. not (m == but)) (l ∷ rest)) ≡ fold put (if l == but then ls else put ls l) (filter (λ m. not (m == but)) rest)
    by true s = rw s
    by false s = rw s

-- The marks are taken out into a set by code, the latest first.

pub record IsTaken (trail : List ℕ) (has has0 codes codes0 : ℕ → Bool) (bound : ℕ) : Type 0 where
  pub beyond : (p : ℕ) → bound ≤ p → has p ≡ false
  pub moved : (l : ℕ) → (codes l || is_marked has 0 trail l) ≡ (codes0 l || is_marked has0 0 trail l)

shuffle : (c a d r : Bool) → c ≡ d → ((c || a) || r) ≡ (a || (d || r))
shuffle true true d r e = refl
shuffle true false true r e = refl
shuffle true false false r e = cc
shuffle false true d r e = refl
shuffle false false true r e = cc
shuffle false false false r e = refl

pub turned : (a b : ℕ) → (a == b) ≡ (b == a)
turned a b = by (a == b) refl
  where
    by : (c : Bool) → (a == b) ≡ c → c ≡ (b == a)
    by true f = sym (same_test b a (sym (test_same a b f)))
    by false f = other (b == a) refl
      where
        other : (d : Bool) → (b == a) ≡ d → false ≡ d
        other true g = sym f ∙ same_test a b (sym (test_same b a g))
        other false g = refl

pub taken_next : (trail : List ℕ) (has left has0 codes more codes0 : ℕ → Bool) (bound p code : ℕ) → IsTaken trail has has0 codes codes0 bound → IsLatest has bound (Some p) → p < length trail → opposite (get_or trail p 0) ≡ code
    → ((k : ℕ) → left k ≡ (not (k == p) && has k)) → ((k : ℕ) → more k ≡ ((k == code) || codes k)) → IsTaken trail left has0 more codes0 p
taken_next trail has left has0 codes more codes0 bound p code t latest h o e f = record {
  beyond = λ q g. e q ∙ off q g (q == p) refl;
  moved = λ l. ap (λ (b : Bool). b || is_marked left 0 trail l) (f l)
      ∙ shuffle (l == code) (codes l) (opposite (get_or trail p 0) == l) (is_marked left 0 trail l) (turned l code ∙ ap (λ (x : ℕ). x == l) (sym o))
      ∙ ap (λ (b : Bool). codes l || b) (sym (marked_more left has 0 p l trail h back))
      ∙ t.moved l;
}
  where
    back : (j : ℕ) → has j ≡ ((j == 0 + p) || left j)
    back j = back_by (j == p) (has j) (left j) (λ s. ap has (test_same j p s) ∙ latest.1) (e j) ∙ ap (λ (x : ℕ). (j == x) || left j) (sym (zero-add p))

    later : (a c : ℕ) → a ≤ c → (c ≡ a → ⊥) → a < c
    later a c g d = omega (arith, g, d)

    off : (q : ℕ) → p ≤ q → (b : Bool) → (q == p) ≡ b → (not b && has q) ≡ false
    off q g true s = refl
    off q g false s = by (cases_lt q bound)
      where
        after : (q ≡ p → ⊥)
        after z = let y : true ≡ false = sym (same_test q p z) ∙ s in cc

        by : (q < bound) ⊎ (bound ≤ q) → has q ≡ false
        by (inl l) = latest.2 q (later p q g after) l
        by (inr l) = t.beyond q l

-- where none is left the set has them all
pub taken_all : (trail : List ℕ) (has has0 codes codes0 : ℕ → Bool) (bound : ℕ) → IsTaken trail has has0 codes codes0 bound → IsLatest has bound None → ((p : ℕ) → has p ≡ false) × ((l : ℕ) → codes l ≡ (codes0 l || is_marked has0 0 trail l))
taken_all trail has has0 codes codes0 bound t none = (empty, λ l. sym (or_false (codes l) (is_marked has 0 trail l) (marked_none has 0 l trail (λ j k e b. ap (λ (c : Bool). c && (opposite (get_or trail k 0) == l)) (empty j)))) ∙ t.moved l)
  where
    empty : (p : ℕ) → has p ≡ false
    empty p = by (cases_lt p bound)
      where
        by : (p < bound) ⊎ (bound ≤ p) → has p ≡ false
        by (inl l) = none p l
        by (inr l) = t.beyond p l

    or_false : (a b : Bool) → b ≡ false → (a || b) ≡ a
    or_false true b e = refl
    or_false false b e = e

-- A set by code that is read out rising.

-- marked literals are of the variables
pub marked_below : (n v l : ℕ) (has : ℕ → Bool) (trail : List ℕ) → ((k : ℕ) → k < length trail → get_or trail k 0 / 2 < n) → 2 * n ≤ l → is_marked has v trail l ≡ false
marked_below n v l has trail b h = marked_none has v l trail (λ j k e i. off j k i (opposite (get_or trail k 0) == l) refl)
  where
    no : (a : Bool) → (a && false) ≡ false
    no true = refl
    no false = refl

    off : (j k : ℕ) → k < length trail → (c : Bool) → (opposite (get_or trail k 0) == l) ≡ c → (has j && c) ≡ false
    off j k i true s = let z = test_same (opposite (get_or trail k 0)) l s in let y = code_below n (get_or trail k 0) (b k i) in absurd (omega (arith, z, y, h))
    off j k i false s = no (has j)

before_from : (v : ℕ) (ls : List ℕ) → IsFrom (v + 1) ls → IsBefore v ls
before_from v [] f = tt
before_from v (m ∷ ls) f = omega (arith, f.0)

rising_places : (v : ℕ) (on : List Bool) → IsRising (places v on)
rising_places v [] = tt
rising_places v (true ∷ on) = rising-cons v (places (v + 1) on) (before_from v (places (v + 1) on) (from_places (v + 1) on)) (rising_places (v + 1) on)
rising_places v (false ∷ on) = rising_places (v + 1) on

-- what is read out rising is the clause
pub read_out : (n : ℕ) (trail lits : List ℕ) (has : ℕ → Bool) → ((k : ℕ) → k < length trail → get_or trail k 0 / 2 < n) → IsRising lits → ((l : ℕ) → has_literal lits l ≡ is_marked has 0 trail l)
    → lits ≡ places 0 (table (2 * n) trail has)
read_out n trail lits has b r e = rising_unique lits (places 0 (table (2 * n) trail has)) r (rising_places 0 (table (2 * n) trail has)) (λ l. e l ∙ by l (cases_lt l (2 * n)) ∙ sym (in_places (table (2 * n) trail has) l))
  where
    by : (l : ℕ) → (l < 2 * n) ⊎ (2 * n ≤ l) → is_marked has 0 trail l ≡ at (table (2 * n) trail has) l
    by l (inl h) = sym (table_at (2 * n) trail has l h)
    by l (inr h) = marked_below n 0 l has trail b h ∙ sym (get_or_past (table (2 * n) trail has) l false (omega (arith, h, table_len (2 * n) trail has)))

-- No marks.

no_word : (w n i : ℕ) → get_or (replicate n w) i w ≡ w
no_word w zero i = refl
no_word w (suc n) zero = refl
no_word w (suc n) (suc i) = no_word w n i

pub no_marks : (n k : ℕ) → words_have (replicate n 0) k ≡ false
no_marks n k = ap (λ (w : ℕ). word_has w (k % 64)) (no_word 0 n (k / 64)) ∙ zero_has (k % 64)

places_off : (f : ℕ → Bool) (v w n : ℕ) → ((k : ℕ) → f k ≡ false) → places v (map f (range_with_len w n)) ≡ []
places_off f v w zero h = refl
places_off f v w (suc n) h = ap (λ (b : Bool). places v (b ∷ map f (range_with_len (w + 1) n))) (h w) ∙ places_off f (v + 1) (w + 1) n h

pub clear_seen : (w : TrailView) (m : MarksView) → IsClear w.variables m → places 0 (seen w m).on ≡ []
clear_seen w m c =
    places_off (is_marked (words_have m.words) 0 (literals w.entries)) 0 0 (2 * w.variables)
    (λ l. marked_none (words_have m.words) 0 l (literals w.entries) (λ j k e b. ap (λ (x : Bool). x && (opposite (get_or (literals w.entries) k 0) == l)) (c.none j)))

pub clear_marks : (w : TrailView) (m : MarksView) → IsClear w.variables m → AreMarks w m
clear_marks w m c = record {
  room = c.room;
  beyond = λ p h. c.none p;
  over = record {
    size = table_len (2 * w.variables) (literals w.entries) (words_have m.words);
    all_false = λ l e. let z : false ≡ true = ap (λ (ls : List ℕ). has_literal ls l) (sym (clear_seen w m c)) ∙ e in cc;
    counted = c.count ∙ ap (λ (ls : List ℕ). length (current w.entries ls)) (sym (clear_seen w m c));
  };
}

-- the level of a literal by the position of its negation
pub level_there : (w : TrailView) (position l : ℕ) → StandsAt w position l → level_of w.entries l ≡ decision_count (take (position + 1) w.entries)
level_there w position l s =
    let h = inside w position l s in
    let next : suc position ≡ position + 1 = omega arith in
    level_at 0 position (opposite l) w.entries h s.place (λ i b e. before i b (s.apart i position (omega (arith, b, h)) h (e ∙ sym s.place)))
    ∙ zero-add (decision_count (take (suc position) w.entries))
    ∙ ap (λ (k : ℕ). decision_count (take k w.entries)) next
  where
    before : (i : ℕ) → i < position → i ≡ position → ⊥
    before i b e = omega (arith, b, e)

-- the literal whose negation is the entry at a position
pub stands : (w : TrailView) (position : ℕ) → AreApart (literals w.entries) → All (λ a. a.literal / 2 < w.variables) w.entries → position < length w.entries → StandsAt w position (opposite (get_or (literals w.entries) position 0))
stands w position apart below h = record {
  apart = apart;
  within = h;
  place = sym (opposite_twice (get_or (literals w.entries) position 0));
  below = (let b = entry_below w.variables w.entries position below h in omega (arith, b, half_opposite (get_or (literals w.entries) position 0)));
}
