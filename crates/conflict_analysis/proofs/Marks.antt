-- A clause as marks at the positions of the entries that made its literals false, where a mark is made or taken back.
use Rattle.std.proofs.Common.{arith, ◌≡◌, ◌==◌, ℕ, zero, suc, ◌+◌, ◌<◌, ◌≤◌, List, [], ◌∷◌, length, map, set, get_or, Bool, true, false, not, ◌||◌, ◌&&◌, refl, sym, ap, ◌∙◌, zero-add}
use Rattle.std.specs.List.{range_with_len}
use Rattle.std.proofs.lemmas.List.FromFn.{length-map-range_with_len, get_or-map-range_with_len}
use Rattle.std.proofs.lemmas.Bool.Decides.{nat_tests}
use Rattle.clause_base.specs.Literal.{opposite}
use Rattle.cdcl_defs.proofs.published.Tests.{same_test, test_same}
use Rattle.cdcl_defs.proofs.published.WalkLaw.{opposite_twice}
use Rattle.cdcl_tables.specs.Mirrored.{AreApart}
use Rattle.conflict_analysis.specs.own.Resolvent.{is_marked}

-- tests that agree where an entry's negation is l mark it both or neither
pub marked_same : (p q : ℕ → Bool) (v l : ℕ) (trail : List ℕ) → ((j k : ℕ) → j ≡ v + k → k < length trail → (p j && (opposite (get_or trail k 0) == l)) ≡ (q j && (opposite (get_or trail k 0) == l)))
    → is_marked p v trail l ≡ is_marked q v trail l
marked_same p q v l [] h = refl
marked_same p q v l (m ∷ trail) h =
    ap (λ (b : Bool). b || is_marked p (v + 1) trail l) (h v 0 (omega arith) (omega arith))
    ∙ ap (λ (b : Bool). (q v && (opposite m == l)) || b) (marked_same p q (v + 1) l trail (λ j k e b. h j (suc k) (omega (arith, e)) (omega (arith, b))))

pub marked_none : (p : ℕ → Bool) (v l : ℕ) (trail : List ℕ) → ((j k : ℕ) → j ≡ v + k → k < length trail → (p j && (opposite (get_or trail k 0) == l)) ≡ false) → is_marked p v trail l ≡ false
marked_none p v l [] h = refl
marked_none p v l (m ∷ trail) h =
    ap (λ (b : Bool). b || is_marked p (v + 1) trail l) (h v 0 (omega arith) (omega arith))
    ∙ marked_none p (v + 1) l trail (λ j k e b. h j (suc k) (omega (arith, e)) (omega (arith, b)))

on_first : (q p e r : Bool) → q ≡ true → ((q && e) || r) ≡ (e || ((p && e) || r))
on_first true p true r h = refl
on_first true true false r h = refl
on_first true false false r h = refl
on_first false p e r h = cc

on_later : (a e r s : Bool) → r ≡ (e || s) → (a || r) ≡ (e || (a || s))
on_later true true r s h = refl
on_later true false r s h = refl
on_later false e r s h = h

-- a further mark
pub marked_more : (p q : ℕ → Bool) (v i l : ℕ) (trail : List ℕ) → i < length trail → ((j : ℕ) → q j ≡ ((j == v + i) || p j)) → is_marked q v trail l ≡ ((opposite (get_or trail i 0) == l) || is_marked p v trail l)
marked_more p q v i l [] h e = absurd (omega (arith, h))
marked_more p q v zero l (m ∷ trail) h e =
    let own : q v ≡ true = e v ∙ ap (λ (b : Bool). b || p v) (same_test v (v + 0) (omega arith)) in
    let rest : is_marked q (v + 1) trail l ≡ is_marked p (v + 1) trail l =
    marked_same q p (v + 1) l trail (λ j k f b. ap (λ (c : Bool). c && (opposite (get_or trail k 0) == l)) (e j ∙ ap (λ (c : Bool). c || p j) (apart_test j (v + 0) (omega (arith, f))))) in
    ap (λ (b : Bool). (q v && (opposite m == l)) || b) rest ∙ on_first (q v) (p v) (opposite m == l) (is_marked p (v + 1) trail l) own
  where
    apart_test : (a b : ℕ) → b < a → (a == b) ≡ false
    apart_test a b h = grind (arith, nat_tests)
marked_more p q v (suc i) l (m ∷ trail) h e =
    let s : v + suc i ≡ v + 1 + i = omega arith in
    let head : q v ≡ p v = e v ∙ ap (λ (b : Bool). b || p v) (apart_test v (v + suc i) (omega arith)) in
    let rest = marked_more p q (v + 1) i l trail (omega (arith, h)) (λ j. e j ∙ ap (λ (k : ℕ). (j == k) || p j) s) in
    ap (λ (b : Bool). (b && (opposite m == l)) || is_marked q (v + 1) trail l) head
    ∙ on_later (p v && (opposite m == l)) (opposite (get_or trail i 0) == l) (is_marked q (v + 1) trail l) (is_marked p (v + 1) trail l) rest
  where
    apart_test : (a b : ℕ) → a < b → (a == b) ≡ false
    apart_test a b h = grind (arith, nat_tests)

-- the entry at a position alone can have its literal's negation marked
pub marked_off : (p : ℕ → Bool) (i : ℕ) (trail : List ℕ) → AreApart trail → i < length trail → p i ≡ false → is_marked p 0 trail (opposite (get_or trail i 0)) ≡ false
marked_off p i trail apart h off = marked_none p 0 (opposite (get_or trail i 0)) trail (λ j k e b. by j k e b (opposite (get_or trail k 0) == opposite (get_or trail i 0)) refl)
  where
    no : (b : Bool) → (b && false) ≡ false
    no true = refl
    no false = refl

    by : (j k : ℕ) → j ≡ 0 + k → k < length trail → (same : Bool) → (opposite (get_or trail k 0) == opposite (get_or trail i 0)) ≡ same → (p j && same) ≡ false
    by j k e b true s =
        let t : get_or trail k 0 ≡ get_or trail i 0 = sym (opposite_twice (get_or trail k 0)) ∙ ap opposite (test_same (opposite (get_or trail k 0)) (opposite (get_or trail i 0)) s) ∙ opposite_twice (get_or trail i 0) in
        let z : k ≡ i = apart k i b h t in
        let y : j ≡ i = omega (arith, e, z) in
        ap (λ (c : Bool). c && true) (ap p y ∙ off)
    by j k e b false s = no (p j)

pub marked_at : (p : ℕ → Bool) (i : ℕ) (trail : List ℕ) → AreApart trail → i < length trail → is_marked p 0 trail (opposite (get_or trail i 0)) ≡ p i
marked_at p i trail apart h = by (p i) refl
  where
    again : (on : p i ≡ true) → (j : ℕ) → (same : Bool) → (j == 0 + i) ≡ same → p j ≡ (same || p j)
    again on j true s = let t : j ≡ i = test_same j (0 + i) s ∙ zero-add i in ap p t ∙ on
    again on j false s = refl

    by : (b : Bool) → p i ≡ b → is_marked p 0 trail (opposite (get_or trail i 0)) ≡ b
    by true e = marked_more p p 0 i (opposite (get_or trail i 0)) trail h (λ j. again e j (j == 0 + i) refl)
        ∙ ap (λ (b : Bool). b || is_marked p 0 trail (opposite (get_or trail i 0))) (same_test (opposite (get_or trail i 0)) (opposite (get_or trail i 0)) refl)
    by false e = marked_off p i trail apart h e

-- The table of a clause, where one place changes.

table_same : (f g : ℕ → Bool) (v n : ℕ) → ((k : ℕ) → v ≤ k → f k ≡ g k) → map f (range_with_len v n) ≡ map g (range_with_len v n)
table_same f g v zero h = refl
table_same f g v (suc n) h = ap (λ (b : Bool). b ∷ map f (range_with_len (v + 1) n)) (h v (omega arith)) ∙ ap (λ (bs : List Bool). g v ∷ bs) (table_same f g (v + 1) n (λ k l. h k (omega (arith, l))))

table_set : (f g : ℕ → Bool) (v n i : ℕ) (b : Bool) → i < n → ((j : ℕ) → j ≡ v + i → g j ≡ b) → ((k : ℕ) → (k ≡ v + i → ⊥) → g k ≡ f k) → map g (range_with_len v n) ≡ set (map f (range_with_len v n)) i b
table_set f g v zero i b h own others = absurd (omega (arith, h))
table_set f g v (suc n) zero b h own others =
    ap (λ (c : Bool). c ∷ map g (range_with_len (v + 1) n)) (own v (omega arith))
    ∙ ap (λ (bs : List Bool). b ∷ bs) (table_same g f (v + 1) n (λ k l. others k (λ (e : k ≡ v + 0). absurd (omega (arith, e, l)))))
table_set f g v (suc n) (suc i) b h own others =
    ap (λ (c : Bool). c ∷ map g (range_with_len (v + 1) n)) (others v (λ (e : v ≡ v + suc i). absurd (omega (arith, e))))
    ∙ ap (λ (bs : List Bool). f v ∷ bs) (table_set f g (v + 1) n i b (omega (arith, h)) (λ j e. own j (omega (arith, e))) (λ k d. others k (λ (e : k ≡ v + suc i). d (omega (arith, e)))))

-- the table by code of what is marked
abbrev pub table : ℕ → List ℕ → (ℕ → Bool) → List Bool
table n trail p = map (is_marked p 0 trail) (range_with_len 0 n)

pub table_at : (n : ℕ) (trail : List ℕ) (p : ℕ → Bool) (l : ℕ) → l < n → get_or (table n trail p) l false ≡ is_marked p 0 trail l
table_at n trail p l h = get_or-map-range_with_len (is_marked p 0 trail) 0 n l l false h (zero-add l)

pub table_len : (n : ℕ) (trail : List ℕ) (p : ℕ → Bool) → length (table n trail p) ≡ n
table_len n trail p = length-map-range_with_len (is_marked p 0 trail) 0 n

apart_code : (a b c : ℕ) → (a ≡ b → ⊥) → c ≡ b → (c == a) ≡ false
apart_code a b c d e = by (c == a) refl
  where
    by : (s : Bool) → (c == a) ≡ s → s ≡ false
    by true f = absurd (d (sym (test_same c a f) ∙ e))
    by false f = refl

-- a further mark puts its literal in
pub table_put : (n : ℕ) (trail : List ℕ) (p q : ℕ → Bool) (i l : ℕ) → i < length trail → opposite (get_or trail i 0) ≡ l → l < n → ((j : ℕ) → q j ≡ ((j == i) || p j)) → table n trail q ≡ set (table n trail p) l true
table_put n trail p q i l h o b e =
    let f : (k : ℕ) → is_marked q 0 trail k ≡ ((opposite (get_or trail i 0) == k) || is_marked p 0 trail k) = λ k. marked_more p q 0 i k trail h (λ j. e j ∙ ap (λ (x : ℕ). (j == x) || p j) (sym (zero-add i))) in
    table_set (is_marked p 0 trail) (is_marked q 0 trail) 0 n l true b
    (λ j s. f j ∙ ap (λ (c : Bool). c || is_marked p 0 trail j) (same_test (opposite (get_or trail i 0)) j (omega (arith, o, s))))
    (λ k d. f k ∙ ap (λ (c : Bool). c || is_marked p 0 trail k) (apart_code k (0 + l) (opposite (get_or trail i 0)) d (omega (arith, o))))

pub back_by : (same was now : Bool) → (same ≡ true → was ≡ true) → now ≡ (not same && was) → was ≡ (same || now)
back_by true was now h e = h refl
back_by false was now h e = sym e

-- to take a mark back takes its literal out
pub table_remove : (n : ℕ) (trail : List ℕ) (p q : ℕ → Bool) (i l : ℕ) → AreApart trail → i < length trail → opposite (get_or trail i 0) ≡ l → l < n → q i ≡ true → ((j : ℕ) → p j ≡ (not (j == i) && q j)) → table n trail p ≡ set (table n trail q) l false
table_remove n trail p q i l apart h o b on e =
    let back : (j : ℕ) → q j ≡ ((j == 0 + i) || p j) = λ j. back_by (j == i) (q j) (p j) (λ s. ap q (test_same j i s) ∙ on) (e j) ∙ ap (λ (x : ℕ). (j == x) || p j) (sym (zero-add i)) in
    let off : p i ≡ false = e i ∙ ap (λ (c : Bool). not c && q i) (same_test i i refl) in
    table_set (is_marked q 0 trail) (is_marked p 0 trail) 0 n l false b
    (λ j s. ap (is_marked p 0 trail) (omega (arith, o, s)) ∙ marked_off p i trail apart h off)
    (λ k d. sym (marked_more p q 0 i k trail h back ∙ ap (λ (c : Bool). c || is_marked p 0 trail k) (apart_code k (0 + l) (opposite (get_or trail i 0)) d (omega (arith, o)))))
