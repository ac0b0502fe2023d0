use Rattle.std.proofs.Common.{replicate, arith, ◌≡◌, ◌==◌, ℕ, zero, suc, ◌+◌, ◌<◌, ◌≤◌, List, [], ◌∷◌, length, set, Bool, true, false, not, ◌||◌, refl, sym, ap, subst, ◌∙◌, filter, if◌then◌else◌, nat_lt, ◌++◌, ◌≢◌, get_or-set_same, get_or-set_other, length-set, zero-add}
use Rattle.std.proofs.Math.Bool.{or-true, or-false}
use Rattle.std.proofs.lemmas.List.{nil_from_length}
use Rattle.std.proofs.lemmas.List.Folds.{list_any-append}
use Rattle.std.proofs.lemmas.Bool.Decides.{nat_tests}
use Rattle.std.specs.List.{list_any}
use Rattle.containers.specs.Rising.{put}
use Rattle.bit_sets.specs.Marks.{places, at, Covers}

-- a number is among these
abbrev pub is_among : List ℕ → ℕ → Bool
is_among numbers k = list_any (λ m. m == k) numbers

has-push : (ls : List ℕ) (l m : ℕ) → is_among (ls ++ l ∷ []) m ≡ (is_among ls m || (l == m))
has-push ls l m = list_any-append (λ k. k == m) ls (l ∷ []) ∙ ap (λ (b : Bool). is_among ls m || b) (or-false (l == m))

-- all of a list is at or past a number
abbrev pub IsFrom : ℕ → List ℕ → Type 0
IsFrom v [] = Unit {0}
IsFrom v (l ∷ ls) = (v ≤ l) × IsFrom v ls

pub from_less : (v w : ℕ) (ls : List ℕ) → v ≤ w → IsFrom w ls → IsFrom v ls
from_less v w [] h f = tt
from_less v w (l ∷ ls) h f = (omega (arith, f.0), from_less v w ls h f.1)

pub from_places : (v : ℕ) (on : List Bool) → IsFrom v (places v on)
from_places v [] = tt
from_places v (true ∷ on) = (omega arith, from_less v (v + 1) (places (v + 1) on) (omega arith) (from_places (v + 1) on))
from_places v (false ∷ on) = from_less v (v + 1) (places (v + 1) on) (omega arith) (from_places (v + 1) on)

pub not_from : (v k : ℕ) (ls : List ℕ) → k < v → IsFrom v ls → is_among ls k ≡ false
not_from v k [] h f = refl
not_from v k (l ∷ ls) h f = let e : (l == k) ≡ false = grind (arith, nat_tests, f.0) in rw e (not_from v k ls h f.1)

-- the members of the places
pub has-places : (v : ℕ) (on : List Bool) (k : ℕ) → is_among (places v on) (v + k) ≡ at on k
has-places v [] k = refl
has-places v (true ∷ on) zero = let e : (v == v + 0) ≡ true = grind (arith, nat_tests) in rw e
has-places v (false ∷ on) zero = not_from (v + 1) (v + 0) (places (v + 1) on) (omega arith) (from_places (v + 1) on)
has-places v (true ∷ on) (suc k) =
    let e : (v == v + suc k) ≡ false = grind (arith, nat_tests) in
    let s : v + suc k ≡ v + 1 + k = omega arith in
    rw e (ap (is_among (places (v + 1) on)) s ∙ has-places (v + 1) on k)
has-places v (false ∷ on) (suc k) = let s : v + suc k ≡ v + 1 + k = omega arith in ap (is_among (places (v + 1) on)) s ∙ has-places (v + 1) on k

put_front : (v : ℕ) (ls : List ℕ) → IsFrom (v + 1) ls → put ls v ≡ v ∷ ls
put_front v [] f = refl
put_front v (l ∷ ls) f =
    let e : nat_lt l v ≡ false = grind (arith, nat_tests, f.0) in
    let g : (l == v) ≡ false = grind (arith, nat_tests, f.0) in
    rw (e, g)

-- to make a place true puts its number in
pub places-put : (v : ℕ) (on : List Bool) (i : ℕ) → i < length on → places v (set on i true) ≡ put (places v on) (v + i)
places-put v [] i h = absurd (omega arith)
places-put v (true ∷ on) zero h =
    let e : nat_lt v (v + 0) ≡ false = grind (arith, nat_tests) in
    let g : (v == v + 0) ≡ true = grind (arith, nat_tests) in
    rw (e, g)
places-put v (false ∷ on) zero h = let s : v + 0 ≡ v = omega arith in rw s (sym (put_front v (places (v + 1) on) (from_places (v + 1) on)))
places-put v (true ∷ on) (suc i) h =
    let e : nat_lt v (v + suc i) ≡ true = grind (arith, nat_tests) in
    let s : v + 1 + i ≡ v + suc i = omega arith in
    rw e (ap (λ ls. v ∷ ls) (places-put (v + 1) on i (omega arith) ∙ ap (put (places (v + 1) on)) s))
places-put v (false ∷ on) (suc i) h =
    let s : v + 1 + i ≡ v + suc i = omega arith in places-put (v + 1) on i (omega arith) ∙ ap (put (places (v + 1) on)) s

filter_front : (k v : ℕ) (ls : List ℕ) → k < v → IsFrom v ls → filter (λ l. not (l == k)) ls ≡ ls
filter_front k v [] h f = refl
filter_front k v (l ∷ ls) h f = let e : (l == k) ≡ false = grind (arith, nat_tests, f.0) in rw e (ap (λ t. l ∷ t) (filter_front k v ls h f.1))

-- to make a place false takes its number out
pub places-remove : (v : ℕ) (on : List Bool) (i : ℕ) → i < length on → places v (set on i false) ≡ filter (λ l. not (l == v + i)) (places v on)
places-remove v [] i h = absurd (omega arith)
places-remove v (true ∷ on) zero h =
    let g : (v == v + 0) ≡ true = grind (arith, nat_tests) in
    rw g (sym (filter_front (v + 0) (v + 1) (places (v + 1) on) (omega arith) (from_places (v + 1) on)))
places-remove v (false ∷ on) zero h = sym (filter_front (v + 0) (v + 1) (places (v + 1) on) (omega arith) (from_places (v + 1) on))
places-remove v (true ∷ on) (suc i) h =
    let e : (v == v + suc i) ≡ false = grind (arith, nat_tests) in
    let s : v + 1 + i ≡ v + suc i = omega arith in
    rw e (ap (λ ls. v ∷ ls) (places-remove (v + 1) on i (omega arith) ∙ ap (λ k. filter (λ l. not (l == k)) (places (v + 1) on)) s))
places-remove v (false ∷ on) (suc i) h =
    let s : v + 1 + i ≡ v + suc i = omega arith in places-remove (v + 1) on i (omega arith) ∙ ap (λ k. filter (λ l. not (l == k)) (places (v + 1) on)) s

-- how often a number is in a list
abbrev pub bit : Bool → ℕ
bit true = 1
bit false = 0

covers_in : (touched : List ℕ) (lit m : ℕ) (same : Bool) → (lit == m) ≡ same → is_among (touched ++ lit ∷ []) m ≡ true → (same ≡ false) → is_among touched m ≡ true
covers_in touched lit m true e h f = cc
covers_in touched lit m false e h f = or_false_right (is_among touched m) (lit == m) e (sym (has-push touched lit m) ∙ h)
  where
    or_false_right : (a b : Bool) → b ≡ false → (a || b) ≡ true → a ≡ true
    or_false_right true b e h = refl
    or_false_right false b e h = cc

in_more : (touched : List ℕ) (lit m : ℕ) → is_among touched m ≡ true → is_among (touched ++ lit ∷ []) m ≡ true
in_more touched lit m h = rw (has-push touched lit m, h)

in_last : (touched : List ℕ) (lit : ℕ) → is_among (touched ++ lit ∷ []) lit ≡ true
in_last touched lit = let e : (lit == lit) ≡ true = grind (arith, nat_tests) in rw (has-push touched lit lit, e) (or-true (is_among touched lit))

pub at-set : (on : List Bool) (i m : ℕ) (b same : Bool) → i < length on → (i == m) ≡ same → at (set on i b) m ≡ (if same then b else at on m)
at-set on i m b true h e = let s : m ≡ i = grind (arith, nat_tests) in rw (s) (get_or-set_same on i b false h)
at-set on i m b false h e = let s : m ≢ i = λ (z : m ≡ i). grind (arith, nat_tests) in get_or-set_other on i m b false s

pub covers_last : (all touched : List ℕ) (lit : ℕ) (on : List Bool) → all ≡ touched ++ lit ∷ [] → Covers all on → lit < length on
covers_last all touched lit on e covers = (subst (λ ls. Covers ls on) e covers).within lit (in_last touched lit)

set_false : (on : List Bool) (lit m : ℕ) (same : Bool) → lit < length on → (lit == m) ≡ same → at (set on lit false) m ≡ true → (same ≡ false) × (at on m ≡ true)
set_false on lit m true h e t = let g = at-set on lit m false true h e in cc
set_false on lit m false h e t = (refl, sym (at-set on lit m false false h e) ∙ t)

-- nor where it is made off
pub covers_set : (all touched : List ℕ) (lit : ℕ) (on : List Bool) → all ≡ touched ++ lit ∷ [] → Covers all on → Covers touched (set on lit false)
covers_set all touched lit on e covers =
    let c = subst (λ ls. Covers ls on) e covers in
    let h = covers_last all touched lit on e covers in
    record {
      covered = λ m t. let s = set_false on lit m (lit == m) h refl t in covers_in touched lit m (lit == m) refl (c.covered m s.1) s.0;
      within = λ m k. let n = length-set on lit false in omega (arith, n, c.within m (in_more touched lit m k));
    }

all_off : (b : Bool) → (b ≡ true → ⊥) → bit b ≡ 0
all_off true h = absurd (h refl)
all_off false h = refl

nothing_left : (touched : List ℕ) (on : List Bool) → Covers touched on → length touched ≡ 0 → Covers [] on
nothing_left touched on c e = subst (λ ls. Covers ls on) (nil_from_length touched e) c

none_in : (on : List Bool) → Covers [] on → (m : ℕ) → bit (at on m) ≡ 0
none_in on c m = all_off (at on m) (λ (t : at on m ≡ true). let h : false ≡ true = c.covered m t in cc)

none_places : (v : ℕ) (on : List Bool) → ((m : ℕ) → bit (at on m) ≡ 0) → places v on ≡ []
none_places v [] h = refl
none_places v (true ∷ on) h = absurd (let k : 1 ≡ 0 = h 0 in omega (arith, k))
none_places v (false ∷ on) h = none_places (v + 1) on (λ m. h (suc m))

-- where nothing is left of those touched nothing is in
pub emptied : (touched : List ℕ) (on : List Bool) → Covers touched on → length touched ≡ 0 → places 0 on ≡ []
emptied touched on c e = none_places 0 on (none_in on (nothing_left touched on c e))

-- a table without marks
pub places_none : (v n : ℕ) → places v (replicate n false) ≡ []
places_none v zero = refl
places_none v (suc n) = places_none (v + 1) n

at_none : (n l : ℕ) → at (replicate n false) l ≡ false
at_none zero l = refl
at_none (suc n) zero = refl
at_none (suc n) (suc l) = at_none n l

pub covers_none : (n : ℕ) (touched : List ℕ) (on : List Bool) → on ≡ replicate n false → touched ≡ [] → Covers touched on
covers_none n touched on e f = rw (e, f) (record {
  covered = λ l h. let z : true ≡ false = sym h ∙ at_none n l in cc;
  within = λ l h. cc;
})

set_same : (on : List Bool) (i : ℕ) → at on i ≡ true → set on i true ≡ on
set_same [] i e = refl
set_same (b ∷ on) zero e = ap (λ (c : Bool). c ∷ on) (sym e)
set_same (b ∷ on) (suc i) e = ap (λ (cs : List Bool). b ∷ cs) (set_same on i e)

-- a literal that is in is put in once
pub put_again : (on : List Bool) (i : ℕ) → i < length on → at on i ≡ true → places 0 on ≡ put (places 0 on) i
put_again on i h e = ap (places 0) (sym (set_same on i e)) ∙ places-put 0 on i h ∙ ap (put (places 0 on)) (zero-add i)

pub put_new : (on : List Bool) (i : ℕ) → i < length on → places 0 (set on i true) ≡ put (places 0 on) i
put_new on i h = places-put 0 on i h ∙ ap (put (places 0 on)) (zero-add i)

pub removed : (on : List Bool) (i : ℕ) → i < length on → places 0 (set on i false) ≡ filter (λ l. not (l == i)) (places 0 on)
removed on i h = places-remove 0 on i h ∙ ap (λ k. filter (λ l. not (l == k)) (places 0 on)) (zero-add i)

pub in_places : (on : List Bool) (k : ℕ) → is_among (places 0 on) k ≡ at on k
in_places on k = ap (is_among (places 0 on)) (sym (zero-add k)) ∙ has-places 0 on k
