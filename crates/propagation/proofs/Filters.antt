use Rattle.std.proofs.Common.{arith, ◌≡◌, ◌==◌, ℕ, zero, suc, ◌+◌, ◌<◌, ◌≤◌, List, [], ◌∷◌, length, take, get_or, Bool, true, false, not, ◌||◌, ◌&&◌, cond, refl, sym, ap, ◌∙◌, leb}
use Rattle.std.specs.List.{list_any, filter}
use Rattle.std.proofs.lemmas.Bool.Decides.{nat_tests}
use Rattle.std.proofs.lemmas.List.{get_or_past}
use Rattle.std.proofs.lemmas.List.Filters.{length-filter_more}
use Rattle.clause_base.specs.Clause.{IsClause, has_literal}
use Rattle.std.proofs.lemmas.Option.{unwrap_or-slice_get}
use Rattle.propagation.specs.Pending.{is_free, is_pending_on}
use Rattle.cdcl_defs.specs.Pending.{is_pending}
use Rattle.cdcl_defs.specs.State.{clause_at}
use Rattle.propagation.specs.own.Visit.{IsSettled}

-- what the test for at most one tells, and what makes it
pub tests_one : (n : ℕ) → n ≤ 1 → leb n 1 ≡ true
tests_one n h = grind (arith, nat_tests)

tests_past_one : (n : ℕ) → 2 ≤ n → leb n 1 ≡ false
tests_past_one n h = grind (arith, nat_tests)

past_one : (n : ℕ) → leb n 1 ≡ false → 2 ≤ n
past_one n h = grind (arith, nat_tests)

pub tests_two : (n : ℕ) → 2 ≤ n → not (leb n 1) ≡ true
tests_two n h = ap (λ (b : Bool). not b) (tests_past_one n h)

pub two_of : (n : ℕ) → not (leb n 1) ≡ true → 2 ≤ n
two_of n h = by (leb n 1) refl h
  where
    by : (b : Bool) → leb n 1 ≡ b → not b ≡ true → 2 ≤ n
    by true e f = absurd (let w : ⊥ = cc in w)
    by false e f = past_one n e

-- a clause with two literals that are not false is not pending
pub pending_off : (on : ℕ → Bool) (xs : List ℕ) → 2 ≤ length (filter (is_free on) xs) → is_pending on xs ≡ false
pending_off on xs t = ap (λ (b : Bool). not (list_any on xs) && b) (tests_past_one (length (filter (is_free on) xs)) t) ∙ by (list_any on xs)
  where
    by : (b : Bool) → (not b && false) ≡ false
    by true = refl
    by false = refl

-- the clause with a number, read from the list
pub clause_is : (cl : List (List ℕ)) (k : ℕ) → clause_at cl k ≡ get_or cl k []
clause_is cl k = unwrap_or-slice_get cl k []

-- past the last clause there is the empty one
pub clause_past : (cl : List (List ℕ)) (k : ℕ) → length cl ≤ k → clause_at cl k ≡ []
clause_past cl k h = clause_is cl k ∙ get_or_past cl k [] h

pub none_lawful : IsClause []
none_lawful = record { rising = tt; no_pair = refl }

-- a clause is pending by its number
pub pending_at : (cl : List (List ℕ)) (kept : List Bool) (trail : List ℕ) (k : ℕ)
    → is_pending_on cl kept trail k ≡ (get_or kept k false && is_pending (has_literal trail) (clause_at cl k))
pending_at cl kept trail k = refl

abbrev pub bit : Bool → ℕ
bit b = cond b 1 0

count_step : (p : ℕ → Bool) (x : ℕ) (xs : List ℕ) → length (filter p (x ∷ xs)) ≡ bit (p x) + length (filter p xs)
count_step p x xs = by (p x)
  where
    by : (b : Bool) → length (cond b (x ∷ filter p xs) (filter p xs)) ≡ bit b + length (filter p xs)
    by true = omega arith
    by false = omega arith

pub count_take : (p : ℕ → Bool) (i : ℕ) (xs : List ℕ) → length (filter p (take i xs)) ≤ length (filter p xs)
count_take p zero xs = omega arith
count_take p (suc i) [] = omega arith
count_take p (suc i) (x ∷ xs) = let k = count_take p i xs in omega (arith, k, count_step p x (take i xs), count_step p x xs)

pub count_none : (p : ℕ → Bool) (xs : List ℕ) → ((i : ℕ) → i < length xs → p (get_or xs i 0) ≡ false) → length (filter p xs) ≡ 0
count_none p [] h = refl
count_none p (x ∷ xs) h =
    let k = count_none p xs (λ i g. h (suc i) (omega (arith, g))) in
    let e : bit (p x) ≡ 0 = ap (λ (b : Bool). bit b) (h 0 (omega arith)) in
    omega (arith, k, e, count_step p x xs)

-- where all places but one fail, one passes at most
pub count_one : (p : ℕ → Bool) (xs : List ℕ) (k : ℕ) → ((i : ℕ) → i < length xs → (i ≡ k → ⊥) → p (get_or xs i 0) ≡ false) → length (filter p xs) ≤ 1
count_one p [] k h = omega arith
count_one p (x ∷ xs) zero h =
    let n = count_none p xs (λ i g. h (suc i) (omega (arith, g)) (λ (e : suc i ≡ 0). absurd (omega (arith, e)))) in
    let c : bit (p x) ≤ 1 = by (p x) in
    omega (arith, n, c, count_step p x xs)
  where
    by : (b : Bool) → bit b ≤ 1
    by true = omega arith
    by false = omega arith
count_one p (x ∷ xs) (suc k) h =
    let n = count_one p xs k (λ i g ne. h (suc i) (omega (arith, g)) (λ (e : suc i ≡ suc k). ne (omega (arith, e)))) in
    let e : bit (p x) ≡ 0 = ap (λ (b : Bool). bit b) (h 0 (omega arith) (λ (e : 0 ≡ suc k). absurd (omega (arith, e)))) in
    omega (arith, n, e, count_step p x xs)

pub count_some : (p : ℕ → Bool) (xs : List ℕ) (i : ℕ) → i < length xs → p (get_or xs i 0) ≡ true → 1 ≤ length (filter p xs)
count_some p [] i h e = absurd (omega arith)
count_some p (x ∷ xs) zero h e =
    let c : bit (p x) ≡ 1 = ap (λ (b : Bool). bit b) e in omega (arith, c, count_step p x xs)
count_some p (x ∷ xs) (suc i) h e = let k = count_some p xs i (omega arith) e in omega (arith, k, count_step p x xs)

-- two places that pass
pub count_two : (p : ℕ → Bool) (xs : List ℕ) (i j : ℕ) → i < length xs → j < length xs → (i ≡ j → ⊥) → p (get_or xs i 0) ≡ true
    → p (get_or xs j 0) ≡ true → 2 ≤ length (filter p xs)
count_two p [] i j a b ne e f = absurd (omega arith)
count_two p (x ∷ xs) zero zero a b ne e f = absurd (ne refl)
count_two p (x ∷ xs) zero (suc j) a b ne e f =
    let c : bit (p x) ≡ 1 = ap (λ (b : Bool). bit b) e in
    let k = count_some p xs j (omega arith) f in omega (arith, c, k, count_step p x xs)
count_two p (x ∷ xs) (suc i) zero a b ne e f =
    let c : bit (p x) ≡ 1 = ap (λ (b : Bool). bit b) f in
    let k = count_some p xs i (omega arith) e in omega (arith, c, k, count_step p x xs)
count_two p (x ∷ xs) (suc i) (suc j) a b ne e f =
    let k = count_two p xs i j (omega arith) (omega arith) (λ (q : i ≡ j). ne (omega (arith, q))) e f in omega (arith, k, count_step p x xs)

-- a stricter test passes fewer
pub count_weaker : (p q : ℕ → Bool) → ((x : ℕ) → p x ≡ true → q x ≡ true) → (xs : List ℕ) → length (filter p xs) ≤ length (filter q xs)
count_weaker p q h [] = omega arith
count_weaker p q h (x ∷ xs) =
    let k = count_weaker p q h xs in
    let c : bit (p x) ≤ bit (q x) = by (p x) (q x) (h x) in
    omega (arith, k, c, count_step p x xs, count_step q x xs)
  where
    by : (a b : Bool) → (a ≡ true → b ≡ true) → bit a ≤ bit b
    by true true h = omega arith
    by true false h = absurd (let z : false ≡ true = h refl in let w : ⊥ = cc in w)
    by false b h = omega arith

-- a literal of a list that is true
pub any_from_has : (on : ℕ → Bool) (xs : List ℕ) (l : ℕ) → has_literal xs l ≡ true → on l ≡ true → list_any on xs ≡ true
any_from_has on [] l h e = absurd (let w : ⊥ = cc in w)
any_from_has on (x ∷ xs) l h e = by (x == l) refl h (any_from_has on xs l)
  where
    by : (b : Bool) → (x == l) ≡ b → (b || has_literal xs l) ≡ true → (has_literal xs l ≡ true → on l ≡ true → list_any on xs ≡ true)
        → (on x || list_any on xs) ≡ true
    by true f h k = let t : x ≡ l = grind (arith, nat_tests) in let o : on x ≡ true = ap on t ∙ e in rw o
    by false f h k = or (on x) (k h e)
      where
        or : (b : Bool) → list_any on xs ≡ true → (b || list_any on xs) ≡ true
        or true h = refl
        or false h = h

pub any_weaker : (p q : ℕ → Bool) → ((x : ℕ) → p x ≡ true → q x ≡ true) → (xs : List ℕ) → list_any p xs ≡ true → list_any q xs ≡ true
any_weaker p q h [] e = absurd (let w : ⊥ = cc in w)
any_weaker p q h (x ∷ xs) e = by (p x) (q x) (h x) e (any_weaker p q h xs)
  where
    by : (a b : Bool) → (a ≡ true → b ≡ true) → (a || list_any p xs) ≡ true → (list_any p xs ≡ true → list_any q xs ≡ true) → (b || list_any q xs) ≡ true
    by a true h e k = refl
    by true false h e k = absurd (let z : false ≡ true = h refl in let w : ⊥ = cc in w)
    by false false h e k = k e

pub has_get : (xs : List ℕ) (i : ℕ) → i < length xs → has_literal xs (get_or xs i 0) ≡ true
has_get [] i h = absurd (omega arith)
has_get (x ∷ xs) zero h = let t : (x == x) ≡ true = grind (arith, nat_tests) in rw t
has_get (x ∷ xs) (suc i) h = by (x == get_or xs i 0) (has_get xs i (omega arith))
  where
    by : (b : Bool) → has_literal xs (get_or xs i 0) ≡ true → (b || has_literal xs (get_or xs i 0)) ≡ true
    by true h = refl
    by false h = h

-- a clause with a true literal is settled
pub settled_true : (on set : ℕ → Bool) (xs : List ℕ) (l c : ℕ) → has_literal xs l ≡ true → on l ≡ true → IsSettled on set xs c
settled_true on set xs l c h e =
    let a = any_from_has on xs l h e in
    record {
      not_loose = λ f. absurd (let z : true ≡ false = sym a ∙ f in let w : ⊥ = cc in w);
      in_set = λ f. absurd (let z : false ≡ true = ap (λ (b : Bool). not b && leb (length (filter (is_free on) xs)) 1) (sym a) ∙ f in let w : ⊥ = cc in w);
    }

-- a clause in the set whose literals are all false but for one place is settled
pub settled_one : (on set : ℕ → Bool) (xs : List ℕ) (k c : ℕ) → ((i : ℕ) → i < length xs → (i ≡ k → ⊥) → is_free on (get_or xs i 0) ≡ false)
    → set c ≡ true → IsSettled on set xs c
settled_one on set xs k c h e =
    let n : length (filter (is_free on) xs) ≤ 1 = count_one (is_free on) xs k h in
    record {
      not_loose = λ f. ap (λ (b : Bool). not b) (tests_one (length (filter (is_free on) xs)) n);
      in_set = λ f. e;
    }

-- two free places up to here are two in all
pub two_by_here : (on : ℕ → Bool) (xs : List ℕ) (i : ℕ) (x : ℕ) → i < length xs → x ≡ get_or xs i 0 → length (filter (is_free on) (take i xs)) ≡ 1
    → is_free on x ≡ true → false ≡ is_pending on xs
two_by_here on xs i x h e n f =
    let m : length (filter (is_free on) (take (i + 1) xs)) ≡ length (filter (is_free on) (take i xs)) + bit (is_free on (get_or xs i 0)) = filter_length i h in
    let c : bit (is_free on (get_or xs i 0)) ≡ 1 = ap (λ (y : ℕ). bit (is_free on y)) (sym e) ∙ ap (λ (b : Bool). bit b) f in
    let k = count_take (is_free on) (i + 1) xs in
    let t : 2 ≤ length (filter (is_free on) xs) = omega (arith, m, c, k, n) in
    sym (pending_off on xs t)
  where
    filter_length : (i : ℕ) → i < length xs
        → length (filter (is_free on) (take (i + 1) xs)) ≡ length (filter (is_free on) (take i xs)) + bit (is_free on (get_or xs i 0))
    filter_length i h = length-filter_more (is_free on) xs i 0 h

-- the first of two tests that both pass
pub first_true : (a b : Bool) → (a && b) ≡ true → a ≡ true
first_true true b e = refl
first_true false b e = e
