-- What the pairs of a literal tell of clauses.
use Rattle.std.proofs.Common.{arith, ◌≡◌, ◌==◌, ℕ, zero, suc, ◌+◌, ◌<◌, ◌≤◌, List, [], ◌∷◌, ◌++◌, length, get_or, Bool, true, false, All, refl, sym, ap, ◌∙◌, subst, ◌⊎◌, inl, inr, length-append}
use Rattle.std.proofs.lemmas.List.{get_or-append-add}
use Rattle.std.proofs.lemmas.List.Elements.{All-nil, All-cons, All-head, All-tail, All-append, All-weaker, All-same, All-get_or}
use Rattle.clause_base.specs.declared.pair.Pair.{Pair}
use Rattle.clause_base.specs.Pairs.{pair_of, pairs_from, pairs_of, pair_in, no_pair}
use Rattle.cdcl_tables.specs.Pairs.{clause_in, IsPairOf, HasPair, IsInPairs, AreExact}
use Rattle.cdcl_tables.specs.own.Lists.{AreWithin}
use Rattle.clause_base.proofs.published.PairCounts.{equal_of, pair_first, pair_second, pair_neither}
use Rattle.cdcl_tables.proofs.Shifts.{test_true}

-- a pair has a literal and a number below these
abbrev IsSmall : ℕ → ℕ → Pair → Type 0
IsSmall codes count p = (p.other < codes) × (p.number < count)

pair_small : (codes count n x : ℕ) (c : List ℕ) → n < count → All (λ l. l < codes) c → All (IsSmall codes count) (pair_of n x c)
pair_small codes count n x [] h below = All-nil (IsSmall codes count)
pair_small codes count n x (a ∷ []) h below = All-nil (IsSmall codes count)
pair_small codes count n x (a ∷ b ∷ []) h below = by (a == x) refl (b == x) refl
  where
    la : a < codes
    la = All-head (λ l. l < codes) a (b ∷ []) below

    lb : b < codes
    lb = All-head (λ l. l < codes) b [] (All-tail (λ l. l < codes) a (b ∷ []) below)

    by : (p : Bool) → (a == x) ≡ p → (q : Bool) → (b == x) ≡ q → All (IsSmall codes count) (pair_of n x (a ∷ b ∷ []))
    by true ea q eb = All-same (IsSmall codes count) _ _ (pair_first n x a b ea) (All-cons (IsSmall codes count) _ [] (lb, h) (All-nil (IsSmall codes count)))
    by false ea true eb = All-same (IsSmall codes count) _ _ (pair_second n x a b ea eb) (All-cons (IsSmall codes count) _ [] (la, h) (All-nil (IsSmall codes count)))
    by false ea false eb = All-same (IsSmall codes count) _ _ (pair_neither n x a b ea eb) (All-nil (IsSmall codes count))
pair_small codes count n x (a ∷ b ∷ d ∷ c) h below = All-nil (IsSmall codes count)

pairs_small : (codes count n x : ℕ) (cs : List (List ℕ)) → n + length cs ≤ count → All (All (λ l. l < codes)) cs → All (IsSmall codes count) (pairs_from n x cs)
pairs_small codes count n x [] h below = All-nil (IsSmall codes count)
pairs_small codes count n x (c ∷ cs) h below =
    All-append (IsSmall codes count) (pair_of n x c) (pairs_from (n + 1) x cs)
    (pair_small codes count n x c (omega (arith, h)) (All-head (All (λ l. l < codes)) c cs below))
    (pairs_small codes count (n + 1) x cs (omega (arith, h)) (All-tail (All (λ l. l < codes)) c cs below))

pub within_of : (codes count : ℕ) (cs : List (List ℕ)) (table : List (List Pair)) → length cs ≤ count → All (All (λ l. l < codes)) cs → ((x : ℕ) → pairs_of table x ≡ pairs_from 0 x cs) → AreWithin codes count table
within_of codes count cs table h below e = record {
  others = λ x place g. (at x place g).0;
  numbers = λ x place g. (at x place g).1;
}
  where
    at : (x place : ℕ) → place < length (pairs_of table x) → IsSmall codes count (pair_in (pairs_of table x) place)
    at x place g = All-get_or (IsSmall codes count) (pairs_of table x) place no_pair g (All-same (IsSmall codes count) (pairs_of table x) (pairs_from 0 x cs) (e x) (pairs_small codes count 0 x cs (omega (arith, h)) below))

-- a pair is of a clause of the literal and the other one, whose number is given
record IsOf (n x : ℕ) (cs : List (List ℕ)) (p : Pair) : Type 0 where
  place : ℕ
  numbered : p.number ≡ n + place
  is : (clause_in cs place ≡ x ∷ p.other ∷ []) ⊎ (clause_in cs place ≡ p.other ∷ x ∷ [])

of_next : (n x : ℕ) (c : List ℕ) (cs : List (List ℕ)) (p : Pair) → IsOf (n + 1) x cs p → IsOf n x (c ∷ cs) p
of_next n x c cs p o = record { place = suc o.place; numbered = omega (arith, o.numbered); is = o.is }

pair_exact : (n x : ℕ) (c : List ℕ) (cs : List (List ℕ)) → All (IsOf n x (c ∷ cs)) (pair_of n x c)
pair_exact n x [] cs = All-nil (IsOf n x ([] ∷ cs))
pair_exact n x (a ∷ []) cs = All-nil (IsOf n x ((a ∷ []) ∷ cs))
pair_exact n x (a ∷ b ∷ []) cs = by (a == x) refl (b == x) refl
  where
    here : (p : Bool) → (a == x) ≡ p → (q : Bool) → (b == x) ≡ q → (o : ℕ) → ((a ∷ b ∷ [] ≡ x ∷ o ∷ []) ⊎ (a ∷ b ∷ [] ≡ o ∷ x ∷ [])) → IsOf n x ((a ∷ b ∷ []) ∷ cs) (record { other = o; number = n })
    here p ea q eb o is = record { place = 0; numbered = omega arith; is = is }

    by : (p : Bool) → (a == x) ≡ p → (q : Bool) → (b == x) ≡ q → All (IsOf n x ((a ∷ b ∷ []) ∷ cs)) (pair_of n x (a ∷ b ∷ []))
    by true ea q eb =
        All-same (IsOf n x ((a ∷ b ∷ []) ∷ cs)) _ _ (pair_first n x a b ea)
        (All-cons (IsOf n x ((a ∷ b ∷ []) ∷ cs)) (record { other = b; number = n }) [] (here true ea q eb b (inl (ap (λ (i : ℕ). i ∷ b ∷ []) (equal_of a x ea)))) (All-nil (IsOf n x ((a ∷ b ∷ []) ∷ cs))))
    by false ea true eb =
        All-same (IsOf n x ((a ∷ b ∷ []) ∷ cs)) _ _ (pair_second n x a b ea eb)
        (All-cons (IsOf n x ((a ∷ b ∷ []) ∷ cs)) (record { other = a; number = n }) [] (here false ea true eb a (inr (ap (λ (i : ℕ). a ∷ i ∷ []) (equal_of b x eb)))) (All-nil (IsOf n x ((a ∷ b ∷ []) ∷ cs))))
    by false ea false eb = All-same (IsOf n x ((a ∷ b ∷ []) ∷ cs)) _ _ (pair_neither n x a b ea eb) (All-nil (IsOf n x ((a ∷ b ∷ []) ∷ cs)))
pair_exact n x (a ∷ b ∷ d ∷ c) cs = All-nil (IsOf n x ((a ∷ b ∷ d ∷ c) ∷ cs))

pairs_exact : (n x : ℕ) (cs : List (List ℕ)) → All (IsOf n x cs) (pairs_from n x cs)
pairs_exact n x [] = All-nil (IsOf n x [])
pairs_exact n x (c ∷ cs) =
    All-append (IsOf n x (c ∷ cs)) (pair_of n x c) (pairs_from (n + 1) x cs) (pair_exact n x c cs)
    (All-weaker (IsOf (n + 1) x cs) (IsOf n x (c ∷ cs)) (of_next n x c cs) (pairs_from (n + 1) x cs) (pairs_exact (n + 1) x cs))

pair_of_clause : (x : ℕ) (cs : List (List ℕ)) (p : Pair) → IsOf 0 x cs p → IsPairOf cs x p
pair_of_clause x cs p o = let e : o.place ≡ p.number = omega (arith, o.numbered) in subst (λ (i : ℕ). (clause_in cs i ≡ x ∷ p.other ∷ []) ⊎ (clause_in cs i ≡ p.other ∷ x ∷ [])) e o.is

pub exact_of : (cs : List (List ℕ)) (index : List (List Pair)) → ((x : ℕ) → pairs_of index x ≡ pairs_from 0 x cs) → AreExact cs index
exact_of cs index e x place h =
    pair_of_clause x cs (pair_in (pairs_of index x) place)
    (All-get_or (IsOf 0 x cs) (pairs_of index x) place no_pair h (All-same (IsOf 0 x cs) (pairs_of index x) (pairs_from 0 x cs) (e x) (pairs_exact 0 x cs)))

-- a clause of two literals is among the pairs of both
record IsAmong (pairs : List Pair) (other number : ℕ) : Type 0 where
  place : ℕ
  inside : place < length pairs
  is : pair_in pairs place ≡ record { other = other; number = number }

among_next : (n x : ℕ) (c : List ℕ) (cs : List (List ℕ)) (o k : ℕ) → IsAmong (pairs_from (n + 1) x cs) o k → IsAmong (pairs_from n x (c ∷ cs)) o k
among_next n x c cs o k a = record {
  place = length (pair_of n x c) + a.place;
  inside = omega (arith, a.inside, length-append (pair_of n x c) (pairs_from (n + 1) x cs));
  is = get_or-append-add (pair_of n x c) (pairs_from (n + 1) x cs) a.place no_pair ∙ a.is;
}

among_here : (n x : ℕ) (c : List ℕ) (cs : List (List ℕ)) (o : ℕ) → pair_of n x c ≡ (record { other = o; number = n }) ∷ [] → IsAmong (pairs_from n x (c ∷ cs)) o n
among_here n x c cs o e = record {
  place = 0;
  inside = omega (arith, length-append (pair_of n x c) (pairs_from (n + 1) x cs), ap (λ (ps : List Pair). length ps) e);
  is = ap (λ (ps : List Pair). get_or (ps ++ pairs_from (n + 1) x cs) 0 no_pair) e;
}

pair_back : (n a b : ℕ) → pair_of n b (a ∷ b ∷ []) ≡ (record { other = a; number = n }) ∷ []
pair_back n a b = by (a == b) refl
  where
    by : (p : Bool) → (a == b) ≡ p → pair_of n b (a ∷ b ∷ []) ≡ (record { other = a; number = n }) ∷ []
    by true e = pair_first n b a b e ∙ ap (λ (i : ℕ). (record { other = i; number = n }) ∷ []) (sym (equal_of a b e))
    by false e = pair_second n b a b e (test_true b b refl)

among_first : (n i a b : ℕ) (cs : List (List ℕ)) → clause_in cs i ≡ a ∷ b ∷ [] → (k : ℕ) → k ≡ n + i → IsAmong (pairs_from n a cs) b k
among_first n i a b [] e k q = absurd (let w : ⊥ = cc in w)
among_first n zero a b (c ∷ cs) e k q =
    let z : n ≡ k = omega (arith, q) in
    subst (λ (j : ℕ). IsAmong (pairs_from n a (c ∷ cs)) b j) z (among_here n a c cs b (ap (λ (d : List ℕ). pair_of n a d) e ∙ pair_first n a a b (test_true a a refl)))
among_first n (suc i) a b (c ∷ cs) e k q = among_next n a c cs b k (among_first (n + 1) i a b cs e k (omega (arith, q)))

among_second : (n i a b : ℕ) (cs : List (List ℕ)) → clause_in cs i ≡ a ∷ b ∷ [] → (k : ℕ) → k ≡ n + i → IsAmong (pairs_from n b cs) a k
among_second n i a b [] e k q = absurd (let w : ⊥ = cc in w)
among_second n zero a b (c ∷ cs) e k q =
    let z : n ≡ k = omega (arith, q) in
    subst (λ (j : ℕ). IsAmong (pairs_from n b (c ∷ cs)) a j) z (among_here n b c cs a (ap (λ (d : List ℕ). pair_of n b d) e ∙ pair_back n a b))
among_second n (suc i) a b (c ∷ cs) e k q = among_next n b c cs a k (among_second (n + 1) i a b cs e k (omega (arith, q)))

has_of : (index : List (List Pair)) (code o k : ℕ) (ps : List Pair) → pairs_of index code ≡ ps → IsAmong ps o k → HasPair index code o k
has_of index code o k ps e a = record {
  place = a.place;
  inside = omega (arith, a.inside, ap (λ (qs : List Pair). length qs) e);
  is = ap (λ (qs : List Pair). pair_in qs a.place) e ∙ a.is;
}

list_two : (k : List ℕ) → length k ≡ 2 → k ≡ get_or k 0 0 ∷ get_or k 1 0 ∷ []
list_two [] e = absurd (omega (arith, e))
list_two (a ∷ []) e = absurd (omega (arith, e))
list_two (a ∷ b ∷ []) e = refl
list_two (a ∷ b ∷ c ∷ k) e = absurd (omega (arith, e))

pub found_of : (cs : List (List ℕ)) (index : List (List Pair)) → ((x : ℕ) → pairs_of index x ≡ pairs_from 0 x cs) → (c : ℕ) → length (clause_in cs c) ≡ 2 → IsInPairs index (clause_in cs c) c
found_of cs index e c two =
    let a : ℕ = get_or (clause_in cs c) 0 0 in
    let b : ℕ = get_or (clause_in cs c) 1 0 in
    let is : clause_in cs c ≡ a ∷ b ∷ [] = list_two (clause_in cs c) two in
    record {
      first = a;
      second = b;
      is = is;
      has = has_of index a b c (pairs_from 0 a cs) (e a) (among_first 0 c a b cs is c (omega arith));
      back = has_of index b a c (pairs_from 0 b cs) (e b) (among_second 0 c a b cs is c (omega arith));
    }
