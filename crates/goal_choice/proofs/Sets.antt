-- The members of a row of bits, when its least one is taken out and when one is put in.
use Rattle.std.proofs.Common.{arith, ◌≡◌, ◌==◌, ℕ, zero, suc, ◌+◌, ◌*◌, ◌/◌, ◌<◌, ◌≤◌, List, [], ◌∷◌, Bool, true, false, not, ◌&&◌, ◌||◌, if◌then◌else◌, nat_lt, nat_le, refl, sym, ap, ◌∙◌, ◌⊎◌, inl, inr}
use Rattle.std.proofs.lemmas.Bool.{cases_lt, cases_order}
use Rattle.std.specs.List.{filter, range_with_len, AllByRecursion}
use Rattle.std.proofs.lemmas.Bool.Decides.{nat_tests}
use Rattle.containers.specs.Rising.{put}
use Rattle.goal_choice.specs.own.Members.{Literals, members_from}

same_above : (p q : ℕ → Bool) (k n : ℕ) → ((j : ℕ) → k ≤ j → q j ≡ p j) → filter q (range_with_len k n) ≡ filter p (range_with_len k n)
same_above p q k zero h = refl
same_above p q k (suc n) h = by (p k) (q k) (h k (omega arith)) (same_above p q (k + 1) n (λ j l. h j (omega arith)))
  where
    by : (b c : Bool) → c ≡ b → filter q (range_with_len (k + 1) n) ≡ filter p (range_with_len (k + 1) n) → (if c then k ∷ filter q (range_with_len (k + 1) n) else filter q (range_with_len (k + 1) n)) ≡ (if b then k ∷ filter p (range_with_len (k + 1) n) else filter p (range_with_len (k + 1) n))
    by true true e r = ap (λ (ls : List ℕ). k ∷ ls) r
    by false false e r = r
    by true false e r = cc
    by false true e r = cc

pub none_in : (p : ℕ → Bool) (k n : ℕ) → ((j : ℕ) → k ≤ j → p j ≡ false) → filter p (range_with_len k n) ≡ []
none_in p k zero h = refl
none_in p k (suc n) h = rw (h k (omega arith)) (none_in p (k + 1) n (λ j l. h j (omega arith)))

apart : (l k : ℕ) → (l == k) ≡ false → k ≤ l → k < l
apart l k e h = grind (arith, nat_tests)

-- the least one is taken out
pub taken : (p q : ℕ → Bool) (l k n : ℕ) → k ≤ l → l < k + n → p l ≡ true → ((j : ℕ) → k ≤ j → j < l → p j ≡ false) → ((j : ℕ) → q j ≡ (not (l == j) && p j)) → filter p (range_with_len k n) ≡ l ∷ filter q (range_with_len k n)
taken p q l k zero a b t m h = absurd (omega arith)
taken p q l k (suc n) a b t m h = by (l == k) refl (λ w. taken p q l (k + 1) n (omega arith) (omega arith) t (λ j x y. m j (omega arith) y) h)
  where
    above : l ≡ k → (j : ℕ) → k + 1 ≤ j → q j ≡ p j
    above s j w = let e : (l == j) ≡ false = grind (arith, nat_tests) in h j ∙ rw e refl

    by : (c : Bool) → (l == k) ≡ c → (k < l → filter p (range_with_len (k + 1) n) ≡ l ∷ filter q (range_with_len (k + 1) n)) → (if p k then k ∷ filter p (range_with_len (k + 1) n) else filter p (range_with_len (k + 1) n)) ≡ l ∷ (if q k then k ∷ filter q (range_with_len (k + 1) n) else filter q (range_with_len (k + 1) n))
    by true e on =
        let s : l ≡ k = grind (arith, nat_tests) in
        let pk : p k ≡ true = ap p (sym s) ∙ t in
        let qk : q k ≡ false = h k ∙ rw e refl in
        rw (pk, qk) (ap (λ (x : ℕ). x ∷ filter p (range_with_len (k + 1) n)) (sym s) ∙ ap (λ (ls : List ℕ). l ∷ ls) (sym (same_above p q (k + 1) n (above s))))
    by false e on =
        let w : k < l = apart l k e a in
        let pk : p k ≡ false = m k (omega arith) w in
        let qk : q k ≡ false = h k ∙ rw (e, pk) refl in
        rw (pk, qk) (on w)

front : (p : ℕ → Bool) (k m n : ℕ) → k < m → put (filter p (range_with_len m n)) k ≡ k ∷ filter p (range_with_len m n)
front p k m zero h = refl
front p k m (suc n) h = by (p m) (front p k (m + 1) n (omega arith))
  where
    less : nat_lt m k ≡ false
    less = grind (arith, nat_tests)

    same : (m == k) ≡ false
    same = grind (arith, nat_tests)

    by : (b : Bool) → put (filter p (range_with_len (m + 1) n)) k ≡ k ∷ filter p (range_with_len (m + 1) n) → put (if b then m ∷ filter p (range_with_len (m + 1) n) else filter p (range_with_len (m + 1) n)) k ≡ k ∷ (if b then m ∷ filter p (range_with_len (m + 1) n) else filter p (range_with_len (m + 1) n))
    by true r = rw (less, same) refl
    by false r = r

-- one is put in
pub put_in : (p q : ℕ → Bool) (l k n : ℕ) → k ≤ l → l < k + n → ((j : ℕ) → q j ≡ ((l == j) || p j)) → filter q (range_with_len k n) ≡ put (filter p (range_with_len k n)) l
put_in p q l k zero a b h = absurd (omega arith)
put_in p q l k (suc n) a b h = by (l == k) refl (λ w. put_in p q l (k + 1) n (omega arith) (omega arith) h)
  where
    above : l ≡ k → (j : ℕ) → k + 1 ≤ j → q j ≡ p j
    above s j w = let e : (l == j) ≡ false = grind (arith, nat_tests) in h j ∙ rw e refl

    here : l ≡ k → (c : Bool) → k ∷ filter p (range_with_len (k + 1) n) ≡ put (if c then k ∷ filter p (range_with_len (k + 1) n) else filter p (range_with_len (k + 1) n)) l
    here s true =
        let less : nat_lt k l ≡ false = grind (arith, nat_tests) in
        let same : (k == l) ≡ true = grind (arith, nat_tests) in
        rw (less, same) refl
    here s false = sym (front p k (k + 1) n (omega arith)) ∙ ap (put (filter p (range_with_len (k + 1) n))) (sym s)

    later : k < l → (c : Bool) → filter q (range_with_len (k + 1) n) ≡ put (filter p (range_with_len (k + 1) n)) l → (if c then k ∷ filter q (range_with_len (k + 1) n) else filter q (range_with_len (k + 1) n)) ≡ put (if c then k ∷ filter p (range_with_len (k + 1) n) else filter p (range_with_len (k + 1) n)) l
    later w true r = let less : nat_lt k l ≡ true = grind (arith, nat_tests) in rw less (ap (λ (ls : List ℕ). k ∷ ls) r)
    later w false r = r

    by : (c : Bool) → (l == k) ≡ c → (k < l → filter q (range_with_len (k + 1) n) ≡ put (filter p (range_with_len (k + 1) n)) l) → (if q k then k ∷ filter q (range_with_len (k + 1) n) else filter q (range_with_len (k + 1) n)) ≡ put (if p k then k ∷ filter p (range_with_len (k + 1) n) else filter p (range_with_len (k + 1) n)) l
    by true e on =
        let s : l ≡ k = grind (arith, nat_tests) in
        let qk : q k ≡ true = h k ∙ rw e refl in
        rw qk (ap (λ (ls : List ℕ). k ∷ ls) (same_above p q (k + 1) n (above s)) ∙ here s (p k))
    by false e on =
        let qk : q k ≡ p k = h k ∙ rw e refl in
        let w = apart l k e a in
        rw qk (later w (p k) (on w))

filter_both : (p q : ℕ → Bool) (ls : List ℕ) → filter p (filter q ls) ≡ filter (λ l. p l && q l) ls
filter_both p q [] = refl
filter_both p q (l ∷ ls) = by (q l) (p l) refl refl (filter_both p q ls)
  where
    by : (b c : Bool) → q l ≡ b → p l ≡ c → filter p (filter q ls) ≡ filter (λ k. p k && q k) ls → filter p (if b then l ∷ filter q ls else filter q ls) ≡ (if c && b then l ∷ filter (λ k. p k && q k) ls else filter (λ k. p k && q k) ls)
    by true true d e r = rw e (ap (λ (ks : List ℕ). l ∷ ks) r)
    by true false d e r = rw e r
    by false true d e r = r
    by false false d e r = r

-- the members from zero on are all
pub all_from : (ls : List ℕ) → members_from 0 ls ≡ ls
all_from [] = refl
all_from (l ∷ ls) = let e : nat_le 0 l ≡ true = grind (arith, nat_tests) in rw e (ap (λ (ks : List ℕ). l ∷ ks) (all_from ls))

-- the least member from a number on, and those behind it
pub next_one : (p : ℕ → Bool) (low l n : ℕ) → low ≤ l → p l ≡ true → ((j : ℕ) → low ≤ j → j < l → p j ≡ false) → l < n → members_from low (filter p (range_with_len 0 n)) ≡ l ∷ members_from (l + 1) (filter p (range_with_len 0 n))
next_one p low l n a t m b =
    filter_both (λ j. nat_le low j) p (range_with_len 0 n)
    ∙ taken (λ j. nat_le low j && p j) (λ j. nat_le (l + 1) j && p j) l 0 n (omega arith) (omega (arith, b)) here below rest
    ∙ ap (λ (ks : List ℕ). l ∷ ks) (sym (filter_both (λ j. nat_le (l + 1) j) p (range_with_len 0 n)))
  where
    here : (nat_le low l && p l) ≡ true
    here = let e : nat_le low l ≡ true = grind (arith, nat_tests) in rw (e, t) refl

    below : (j : ℕ) → 0 ≤ j → j < l → (nat_le low j && p j) ≡ false
    below j z k = by (cases_lt j low)
      where
        by : (j < low) ⊎ (low ≤ j) → (nat_le low j && p j) ≡ false
        by (inl h) = let e : nat_le low j ≡ false = grind (arith, nat_tests) in rw e refl
        by (inr h) = let e : nat_le low j ≡ true = grind (arith, nat_tests) in rw (e, m j h k) refl

    rest : (j : ℕ) → (nat_le (l + 1) j && p j) ≡ (not (l == j) && (nat_le low j && p j))
    rest j = by (cases_order j l)
      where
        by : (j ≡ l) ⊎ ((j < l) ⊎ (l < j)) → (nat_le (l + 1) j && p j) ≡ (not (l == j) && (nat_le low j && p j))
        by (inl h) =
            let e : nat_le (l + 1) j ≡ false = grind (arith, nat_tests) in
            let f : (l == j) ≡ true = grind (arith, nat_tests) in
            rw (e, f) refl
        by (inr (inl h)) =
            let e : nat_le (l + 1) j ≡ false = grind (arith, nat_tests) in
            let f : (l == j) ≡ false = grind (arith, nat_tests) in
            rw (e, f) (sym (below j (omega arith) h))
        by (inr (inr h)) =
            let e : nat_le (l + 1) j ≡ true = grind (arith, nat_tests) in
            let f : (l == j) ≡ false = grind (arith, nat_tests) in
            let g : nat_le low j ≡ true = grind (arith, nat_tests) in
            rw (e, f, g) refl

-- there is none from a number on
pub no_next : (p : ℕ → Bool) (low n : ℕ) → ((j : ℕ) → low ≤ j → p j ≡ false) → members_from low (filter p (range_with_len 0 n)) ≡ []
no_next p low n h = filter_both (λ j. nat_le low j) p (range_with_len 0 n) ∙ none_in (λ j. nat_le low j && p j) 0 n (λ j z. by j (cases_lt j low))
  where
    by : (j : ℕ) → (j < low) ⊎ (low ≤ j) → (nat_le low j && p j) ≡ false
    by j (inl k) = let e : nat_le low j ≡ false = grind (arith, nat_tests) in rw e refl
    by j (inr k) = let e : nat_le low j ≡ true = grind (arith, nat_tests) in rw (e, h j k) refl

-- the numbers below twice a count are literals of so many facts
pub within_facts : (p : ℕ → Bool) (facts k n : ℕ) → k + n ≤ 2 * facts → AllByRecursion (λ l. l / 2 < facts) (filter p (range_with_len k n))
within_facts p facts k zero h = tt
within_facts p facts k (suc n) h = by (p k) (within_facts p facts (k + 1) n (omega (arith, h)))
  where
    by : (b : Bool) → AllByRecursion (λ l. l / 2 < facts) (filter p (range_with_len (k + 1) n)) → AllByRecursion (λ l. l / 2 < facts) (if b then k ∷ filter p (range_with_len (k + 1) n) else filter p (range_with_len (k + 1) n))
    by true r = (omega (arith, h), r)
    by false r = r

-- a number that is not in is none of the members
pub is_absent : (p : ℕ → Bool) (l k n : ℕ) → p l ≡ false → AllByRecursion (λ m. m ≡ l → ⊥) (filter p (range_with_len k n))
is_absent p l k zero e = tt
is_absent p l k (suc n) e = by (p k) refl (is_absent p l (k + 1) n e)
  where
    by : (b : Bool) → p k ≡ b → AllByRecursion (λ m. m ≡ l → ⊥) (filter p (range_with_len (k + 1) n)) → AllByRecursion (λ m. m ≡ l → ⊥) (if b then k ∷ filter p (range_with_len (k + 1) n) else filter p (range_with_len (k + 1) n))
    by true q r = (λ same. apart_by same q, r)
      where
        apart_by : k ≡ l → p k ≡ true → ⊥
        apart_by same q = let f = ap p same in cc
    by false q r = r

-- two sets with the same members
pub same_set : (f g : ℕ) (ls ms : List ℕ) → f ≡ g → ls ≡ ms → (let x : Literals = record { facts = f; members = ls } in x) ≡ (let y : Literals = record { facts = g; members = ms } in y)
same_set f g ls ms a b = cc
