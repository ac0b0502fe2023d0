-- What a clause asks for tells whether it is pending, and what it leaves.
use Rattle.std.proofs.Common.{arith, ◌≡◌, ◌≢◌, ◌==◌, ℕ, zero, suc, ◌+◌, ◌-◌, ◌%◌, ◌<◌, ◌≤◌, List, [], ◌∷◌, ◌++◌, length, take, get_or, leb, Bool}
use Rattle.std.proofs.Common.{true, false, not, ◌||◌, ◌&&◌, if◌then◌else◌, refl, sym, ap, ◌∙◌, subst, Some, inl, inr}
use Rattle.std.specs.List.{list_any, filter}
use Rattle.std.proofs.lemmas.Bool.Decides.{nat_tests}
use Rattle.std.proofs.lemmas.List.{take_all}
use Rattle.clause_base.specs.Literal.{opposite}
use Rattle.clause_base.specs.Clause.{has_literal}
use Rattle.cdcl_defs.specs.Pending.{is_pending}
use Rattle.bit_sets.specs.Layered.{IsLeast}
use Rattle.cdcl_tables.proofs.published.Assignments.{has-snoc}
use Rattle.clause_base.specs.declared.pair.Pair.{Pair}
use Rattle.propagation.specs.Pending.{is_free, is_pending_on}
use Rattle.propagation.specs.own.Asks.{IsUnit, IsAsk, IsConsistent}
use Rattle.cdcl_defs.specs.State.{clause_at}
use Rattle.propagation.specs.own.Visit.{Grows, IsFit}
use Rattle.clause_base.specs.Pairs.{pair_in}
use Rattle.propagation.specs.own.Added.{Outlasts}
use Rattle.propagation.proofs.Filters.{clause_is, tests_one, count_one, count_some, count_two, any_from_has, has_get, pending_at}
use Rattle.propagation.proofs.published.Assigns.{equal_of, apart_of, opposite_twice, not_false, true_in_take}

-- the literals of a clause that is read
pub fit_read : (cl : List (List ℕ)) (codes k : ℕ) (xs : List ℕ) → IsFit cl codes → xs ≡ get_or cl k [] → (p : ℕ) → p < length xs → get_or xs p 0 < codes
fit_read cl codes k xs fit e = subst (λ (ys : List ℕ). (p : ℕ) → p < length ys → get_or ys p 0 < codes) (clause_is cl k ∙ sym e) (fit.below k)

-- a test that fails at each place fails for the whole list
none_at : (p : ℕ → Bool) (xs : List ℕ) → ((i : ℕ) → i < length xs → p (get_or xs i 0) ≡ false) → list_any p xs ≡ false
none_at p [] h = refl
none_at p (x ∷ xs) h = ap (λ (b : Bool). b || list_any p xs) (h 0 (omega arith)) ∙ none_at p xs (λ i g. h (suc i) (omega (arith, g)))

-- a literal that is false is not true
off_of : (trail : List ℕ) (l : ℕ) → IsConsistent trail → is_free (has_literal trail) l ≡ false → has_literal trail l ≡ false
off_of trail l c f = ap (has_literal trail) (sym (opposite_twice l)) ∙ c (opposite l) (not_false (has_literal trail (opposite l)) f)

-- a clause with a unit literal is pending where this is not true
pub pending_by_unit : (trail clause : List ℕ) (unit : ℕ) → IsConsistent trail → IsUnit (has_literal trail) clause unit
    → is_pending (has_literal trail) clause ≡ not (has_literal trail unit)
pending_by_unit trail clause unit cons a = met (has_literal trail unit) refl
  where
    on : ℕ → Bool
    on = has_literal trail

    own : (q : ℕ) → q ≡ a.place → on unit ≡ false → on (get_or clause q 0) ≡ false
    own q e f = ap on (ap (λ (i : ℕ). get_or clause i 0) e ∙ a.own) ∙ f

    met : (b : Bool) → on unit ≡ b → is_pending on clause ≡ not (on unit)
    met true f =
        let any = any_from_has on clause unit (ap (λ (l : ℕ). has_literal clause l) (sym a.own) ∙ has_get clause a.place a.inside) f in
        ap (λ (b : Bool). not b && leb (length (filter (is_free on) clause)) 1) any ∙ ap (λ (b : Bool). not b) (sym f)
    met false f =
        let none = none_at on clause (λ i g. at i g (i == a.place) refl) in
        let one = tests_one (length (filter (is_free on) clause)) (count_one (is_free on) clause a.place a.others) in
        ap (λ (b : Bool). not b && leb (length (filter (is_free on) clause)) 1) none ∙ one ∙ ap (λ (b : Bool). not b) (sym f)
      where
        at : (i : ℕ) → i < length clause → (b : Bool) → (i == a.place) ≡ b → on (get_or clause i 0) ≡ false
        at i g true e = own i (equal_of i a.place e) f
        at i g false e = off_of trail (get_or clause i 0) cons (a.others i g (apart_of i a.place e))

-- it is its unit literal on longer trails, and what it asks for stays
pub unit_longer : (on on' : ℕ → Bool) (clause : List ℕ) (unit : ℕ) → ((l : ℕ) → on l ≡ true → on' l ≡ true) → IsUnit on clause unit → IsUnit on' clause unit
unit_longer on on' clause unit h a = record {
  place = a.place;
  inside = a.inside;
  own = a.own;
  others = λ p g ne. ap (λ (b : Bool). not b) (h (opposite (get_or clause p 0)) (not_false (on (opposite (get_or clause p 0))) (a.others p g ne)));
}

pub ask_longer : (on on' : ℕ → Bool) (clause : List ℕ) (ask : ℕ) → ((l : ℕ) → on l ≡ true → on' l ≡ true) → IsAsk on clause ask → IsAsk on' clause ask
ask_longer on on' clause ask h (inl e) = inl e
ask_longer on on' clause ask h (inr u) = inr (unit_longer on on' clause ask h u)

-- trails on which no literal is true and false
pub consistent_none : (trail : List ℕ) → trail ≡ [] → IsConsistent trail
consistent_none trail e l h = absurd (let z : false ≡ true = sym (ap (λ (xs : List ℕ). has_literal xs l) e) ∙ h in let w : ⊥ = cc in w)

off_in_take : (n : ℕ) (trail : List ℕ) (l : ℕ) → has_literal trail l ≡ false → has_literal (take n trail) l ≡ false
off_in_take n trail l f = by (has_literal (take n trail) l) refl
  where
    by : (b : Bool) → has_literal (take n trail) l ≡ b → b ≡ false
    by true e = let z : true ≡ false = sym (true_in_take n trail l e) ∙ f in cc
    by false e = refl

pub consistent_take : (n : ℕ) (trail : List ℕ) → IsConsistent trail → IsConsistent (take n trail)
consistent_take n trail c l h = off_in_take n trail (opposite l) (c l (true_in_take n trail l h))

opposite_apart : (l : ℕ) → l ≡ opposite l → ⊥
opposite_apart l e = by (l % 2 == 0) refl
  where
    at : (b : Bool) → (l % 2 == 0) ≡ b → opposite l ≡ (if b then l + 1 else l - 1)
    at b f = ap (λ (c : Bool). if c then l + 1 else l - 1) f

    by : (b : Bool) → (l % 2 == 0) ≡ b → ⊥
    by true f = absurd (omega (arith, e, at true f))
    by false f = let t : l % 2 ≢ 0 = grind (arith, nat_tests) in absurd (omega (arith, e, at false f, t))

pub consistent_push : (trail : List ℕ) (x : ℕ) → IsConsistent trail → has_literal trail (opposite x) ≡ false → IsConsistent (trail ++ x ∷ [])
consistent_push trail x c free l h = has-snoc trail x (opposite l) ∙ by (x == l) refl (has_literal trail l) refl (sym (has-snoc trail x l) ∙ h)
  where
    by : (b : Bool) → (x == l) ≡ b → (t : Bool) → has_literal trail l ≡ t → (t || b) ≡ true → (has_literal trail (opposite l) || (x == opposite l)) ≡ false
    by true f t g e =
        let q : x ≡ l = equal_of x l f in
        let ne : x ≢ opposite l = (λ (z : x ≡ opposite l). opposite_apart l (sym q ∙ z)) in
        let n : (x == opposite l) ≡ false = grind (arith, nat_tests) in
        ap (λ (b : Bool). b || (x == opposite l)) (ap (λ (y : ℕ). has_literal trail (opposite y)) (sym q) ∙ free) ∙ n
    by false f true g e =
        let ne : x ≢ opposite l = (λ (z : x ≡ opposite l). clash (ap opposite z ∙ opposite_twice l)) in
        let n : (x == opposite l) ≡ false = grind (arith, nat_tests) in
        ap (λ (b : Bool). b || (x == opposite l)) (c l g) ∙ n
      where
        clash : opposite x ≡ l → ⊥
        clash z = let w : true ≡ false = sym g ∙ ap (λ (y : ℕ). has_literal trail y) (sym z) ∙ free in let v : ⊥ = cc in v
    by false f false g e = absurd (let w : ⊥ = cc in w)

-- a literal that is not false for less than the whole trail is false
pub false_past : (trail : List ℕ) (l until : ℕ) → ((n : ℕ) → n ≤ length trail → is_free (has_literal (take n trail)) l ≡ leb n until)
    → until + 1 ≤ length trail → is_free (has_literal trail) l ≡ false
false_past trail l until lasts h =
    let t : leb (length trail) until ≡ false = grind (arith, nat_tests) in
    ap (λ (xs : List ℕ). is_free (has_literal xs) l) (sym (take_all (length trail) trail (omega arith))) ∙ lasts (length trail) (omega arith) ∙ t

-- where the second of the literals that are not false for longest is false, all but the first are
pub false_after : (trail : List ℕ) (l other : ℕ) → Outlasts trail l other → is_free (has_literal trail) l ≡ false → is_free (has_literal trail) other ≡ false
false_after trail l other o f = by (is_free (has_literal trail) other) refl
  where
    whole : take (length trail) trail ≡ trail
    whole = take_all (length trail) trail (omega arith)

    by : (b : Bool) → is_free (has_literal trail) other ≡ b → b ≡ false
    by true e =
        let g = o (length trail) (omega arith) (ap (λ (xs : List ℕ). is_free (has_literal xs) other) whole ∙ e) in
        let z : true ≡ false = sym g ∙ ap (λ (xs : List ℕ). is_free (has_literal xs) l) whole ∙ f in cc
    by false e = refl

-- without a number that does not pass a set still has all that do, and nothing up to that number where it was the least
pub cleaned_complete : (p s s' : ℕ → Bool) (n : ℕ) → p n ≡ false → ((k : ℕ) → p k ≡ true → s k ≡ true) → ((k : ℕ) → s' k ≡ (not (k == n) && s k))
    → (k : ℕ) → p k ≡ true → s' k ≡ true
cleaned_complete p s s' n off complete has k e = has k ∙ by (k == n) refl
  where
    by : (b : Bool) → (k == n) ≡ b → (not b && s k) ≡ true
    by true f = absurd (let z : true ≡ false = sym e ∙ ap p (equal_of k n f) ∙ off in let w : ⊥ = cc in w)
    by false f = complete k e

pub cleaned_least : (s s' : ℕ → Bool) (n : ℕ) → IsLeast s (Some n) → ((k : ℕ) → s' k ≡ (not (k == n) && s k)) → (k : ℕ) → k < n + 1 → s' k ≡ false
cleaned_least s s' n l has k h = has k ∙ by (k == n) refl
  where
    by : (b : Bool) → (k == n) ≡ b → (not b && s k) ≡ false
    by true f = refl
    by false f = let ne : k ≢ n = apart_of k n f in l.1 k (omega (arith, ne, h))

pub cleaned_fewer : (s s' : ℕ → Bool) (n : ℕ) → ((k : ℕ) → s' k ≡ (not (k == n) && s k)) → (k : ℕ) → s' k ≡ true → s k ≡ true
cleaned_fewer s s' n has k h = by (k == n) (sym (has k) ∙ h)
  where
    by : (b : Bool) → (not b && s k) ≡ true → s k ≡ true
    by true e = absurd (let w : ⊥ = cc in w)
    by false e = e

-- the literal that was made true last
pub last_true : (trail : List ℕ) (x : ℕ) → has_literal (trail ++ x ∷ []) x ≡ true
last_true trail x = has-snoc trail x x ∙ by (has_literal trail x)
  where
    same : (x == x) ≡ true
    same = grind (arith, nat_tests)

    by : (b : Bool) → (b || (x == x)) ≡ true
    by true = refl
    by false = same

-- a unit literal is a literal of the clause
pub unit_below : (cl : List (List ℕ)) (on : ℕ → Bool) (k unit codes : ℕ) → IsFit cl codes → IsUnit on (clause_at cl k) unit → unit < codes
unit_below cl on k unit codes fit a = omega (arith, fit.below k a.place a.inside, a.own)

-- of a clause without a literal that is not false each is false
pub none_open : (on : ℕ → Bool) (xs : List ℕ) (i : ℕ) → i < length xs → filter (is_free on) xs ≡ [] → is_free on (get_or xs i 0) ≡ false
none_open on xs i h e = by (is_free on (get_or xs i 0)) refl
  where
    by : (b : Bool) → is_free on (get_or xs i 0) ≡ b → b ≡ false
    by true f = absurd (omega (arith, count_some (is_free on) xs i h f, ap (λ (ys : List ℕ). length ys) e))
    by false f = refl

-- where one element of a list passes a test, it has a place
place_of : (p : ℕ → Bool) (xs : List ℕ) (l : ℕ) → filter p xs ≡ l ∷ [] → (k : ℕ) × (k < length xs) × (get_or xs k 0 ≡ l) × (p l ≡ true)
place_of p [] l e = absurd (let w : ⊥ = cc in w)
place_of p (x ∷ xs) l e = by (p x) refl e (place_of p xs l)
  where
    by : (b : Bool) → p x ≡ b → (if b then x ∷ filter p xs else filter p xs) ≡ l ∷ []
        → (filter p xs ≡ l ∷ [] → (k : ℕ) × (k < length xs) × (get_or xs k 0 ≡ l) × (p l ≡ true))
        → (k : ℕ) × (k < length (x ∷ xs)) × (get_or (x ∷ xs) k 0 ≡ l) × (p l ≡ true)
    by true f g next = let q : x ≡ l = cc in (0, omega arith, q, ap p (sym q) ∙ f)
    by false f g next = let r = next g in (suc r.0, omega (arith, r.1), r.2, r.3)

-- of a clause with one literal that is not false this is its unit literal
pub one_open : (on : ℕ → Bool) (xs : List ℕ) (l : ℕ) → filter (is_free on) xs ≡ l ∷ [] → IsUnit on xs l
one_open on xs l e =
    let at = place_of (is_free on) xs l e in
    record { place = at.0; inside = at.1; own = at.2; others = λ j g ne. by j g ne (is_free on (get_or xs j 0)) refl }
  where
    by : (j : ℕ) → j < length xs → (j ≡ (place_of (is_free on) xs l e).0 → ⊥) → (b : Bool) → is_free on (get_or xs j 0) ≡ b → b ≡ false
    by j g ne false f = refl
    by j g ne true f =
        let at = place_of (is_free on) xs l e in
        let two = count_two (is_free on) xs j at.0 g at.1 ne f (ap (is_free on) at.2 ∙ at.3) in
        absurd (omega (arith, two, ap (λ (ys : List ℕ). length ys) e))

-- a test cannot be true and false
pub clash : {X : Type 0} → true ≡ false → X
clash e = absurd (let w : ⊥ = cc in w)

-- a clause that is kept and pending is pending
pub pending_kept : (cl : List (List ℕ)) (kept : List Bool) (trail : List ℕ) (k : ℕ) → is_pending_on cl kept trail k ≡ true
    → is_pending (has_literal trail) (clause_at cl k) ≡ true
pending_kept cl kept trail k p = by (get_or kept k false) (sym (pending_at cl kept trail k) ∙ p)
  where
    by : (b : Bool) → (b && is_pending (has_literal trail) (clause_at cl k)) ≡ true → is_pending (has_literal trail) (clause_at cl k) ≡ true
    by true e = e
    by false e = absurd (let w : ⊥ = cc in w)

-- one pair more is marked
pub marked_more : (pairs : List Pair) (n : ℕ) (on s s' : ℕ → Bool)
    → ((i : ℕ) → i < n → on (pair_in pairs i).other ≡ false → s (pair_in pairs i).number ≡ true) → Grows s s'
    → (on (pair_in pairs n).other ≡ false → s' (pair_in pairs n).number ≡ true) → (i : ℕ) → i < n + 1 → on (pair_in pairs i).other ≡ false
    → s' (pair_in pairs i).number ≡ true
marked_more pairs n on s s' old grows own i h f = by (i == n) refl
  where
    by : (b : Bool) → (i == n) ≡ b → s' (pair_in pairs i).number ≡ true
    by true e =
        let q = equal_of i n e in
        ap (λ (j : ℕ). s' (pair_in pairs j).number) q ∙ own (ap (λ (j : ℕ). on (pair_in pairs j).other) (sym q) ∙ f)
    by false e = let ne : i ≢ n = apart_of i n e in grows _ (old i (omega (arith, h, ne)) f)

-- what holds below a number, and of the number, holds below the next one
pub below_more : (P : ℕ → Type 0) (i : ℕ) → ((p : ℕ) → p < i → P p) → P i → (p : ℕ) → p < i + 1 → P p
below_more P i before here p h = by (p == i) refl
  where
    by : (b : Bool) → (p == i) ≡ b → P p
    by true e = subst P (sym (equal_of p i e)) here
    by false e = let ne : p ≢ i = apart_of p i e in before p (omega (arith, h, ne))

-- a test that fails everywhere, and one that passes at one place
pub none_left : (p : ℕ → Bool) (xs : List ℕ) → ((i : ℕ) → i < length xs → p (get_or xs i 0) ≡ false) → filter p xs ≡ []
none_left p [] h = refl
none_left p (x ∷ xs) h =
    ap (λ (b : Bool). if b then x ∷ filter p xs else filter p xs) (h 0 (omega arith))
    ∙ none_left p xs (λ i g. h (suc i) (omega (arith, g)))

one_left : (p : ℕ → Bool) (xs : List ℕ) (k : ℕ) → k < length xs → ((i : ℕ) → i < length xs → (i ≡ k → ⊥) → p (get_or xs i 0) ≡ false)
    → p (get_or xs k 0) ≡ true → filter p xs ≡ get_or xs k 0 ∷ []
one_left p [] k g h e = absurd (omega arith)
one_left p (x ∷ xs) zero g h e =
    ap (λ (b : Bool). if b then x ∷ filter p xs else filter p xs) e
    ∙ ap (λ (ys : List ℕ). x ∷ ys) (none_left p xs (λ i l. h (suc i) (omega (arith, l)) (λ (q : suc i ≡ 0). absurd (omega (arith, q)))))
one_left p (x ∷ xs) (suc k) g h e =
    ap (λ (b : Bool). if b then x ∷ filter p xs else filter p xs) (h 0 (omega arith) (λ (q : 0 ≡ suc k). absurd (omega (arith, q))))
    ∙ one_left p xs k (omega (arith, g)) (λ i l ne. h (suc i) (omega (arith, l)) (λ (q : suc i ≡ suc k). ne (omega (arith, q)))) e

-- the unit literal, where it is not false
pub left_one : (on : ℕ → Bool) (clause : List ℕ) (unit : ℕ) → IsUnit on clause unit → is_free on unit ≡ true → filter (is_free on) clause ≡ unit ∷ []
left_one on clause unit a f = one_left (is_free on) clause a.place a.inside a.others (ap (is_free on) a.own ∙ f) ∙ ap (λ (l : ℕ). l ∷ []) a.own

-- else none
pub left_none : (on : ℕ → Bool) (clause : List ℕ) (unit : ℕ) → IsUnit on clause unit → is_free on unit ≡ false → filter (is_free on) clause ≡ []
left_none on clause unit a f = none_left (is_free on) clause (λ i g. at i g (i == a.place) refl)
  where
    at : (i : ℕ) → i < length clause → (b : Bool) → (i == a.place) ≡ b → is_free on (get_or clause i 0) ≡ false
    at i g true e = ap (λ (j : ℕ). is_free on (get_or clause j 0)) (equal_of i a.place e) ∙ ap (is_free on) a.own ∙ f
    at i g false e = a.others i g (apart_of i a.place e)

-- so what a clause asks for tells whether it is pending, and what it leaves
pub ask_true : (trail clause : List ℕ) (ask : ℕ) → IsConsistent trail → IsAsk (has_literal trail) clause ask → (ask ≡ 4294967295 → ⊥)
    → has_literal trail ask ≡ true → is_pending (has_literal trail) clause ≡ false
ask_true trail clause ask cons (inl e) some t = absurd (some e.1)
ask_true trail clause ask cons (inr u) some t = pending_by_unit trail clause ask cons u ∙ ap (λ (b : Bool). not b) t

pub ask_open : (trail clause : List ℕ) (ask : ℕ) → IsConsistent trail → IsAsk (has_literal trail) clause ask → (ask ≡ 4294967295 → ⊥)
    → has_literal trail ask ≡ false → is_pending (has_literal trail) clause ≡ true
ask_open trail clause ask cons (inl e) some f = absurd (some e.1)
ask_open trail clause ask cons (inr u) some f = pending_by_unit trail clause ask cons u ∙ ap (λ (b : Bool). not b) f

pub ask_left : (on : ℕ → Bool) (clause : List ℕ) (ask : ℕ) → IsAsk on clause ask → (ask ≡ 4294967295 → ⊥) → is_free on ask ≡ true
    → filter (is_free on) clause ≡ ask ∷ []
ask_left on clause ask (inl e) some f = absurd (some e.1)
ask_left on clause ask (inr u) some f = left_one on clause ask u f

pub ask_none : (on : ℕ → Bool) (clause : List ℕ) (ask : ℕ) → IsAsk on clause ask → (ask ≡ 4294967295 → ⊥) → is_free on ask ≡ false
    → filter (is_free on) clause ≡ []
ask_none on clause ask (inl e) some f = absurd (some e.1)
ask_none on clause ask (inr u) some f = left_none on clause ask u f

-- what a clause asks for is one of its literals, if it has any
pub ask_below : (cl : List (List ℕ)) (on : ℕ → Bool) (k ask codes : ℕ) → IsFit cl codes → IsAsk on (clause_at cl k) ask → (ask ≡ 4294967295 → ⊥) → ask < codes
ask_below cl on k ask codes fit (inl e) some = absurd (some e.1)
ask_below cl on k ask codes fit (inr u) some = unit_below cl on k ask codes fit u

pub ask_empty : (cl : List (List ℕ)) (on : ℕ → Bool) (k ask codes : ℕ) → IsFit cl codes → codes ≤ 4294967294 → IsAsk on (clause_at cl k) ask
    → ask ≡ 4294967295 → clause_at cl k ≡ []
ask_empty cl on k ask codes fit few (inl e) none = e.0
ask_empty cl on k ask codes fit few (inr u) none = absurd (omega (arith, unit_below cl on k ask codes fit u, few, none))
