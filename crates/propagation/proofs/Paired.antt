-- Clauses of two literals by the lists of their literals.
use Rattle.std.proofs.Common.{arith, ◌≡◌, ◌≢◌, ◌==◌, ℕ, zero, suc, ◌<◌, ◌≤◌, List, [], ◌∷◌, ◌++◌, length, set, get_or, leb, ltb, Bool, true, false}
use Rattle.std.proofs.Common.{not, ◌||◌, if◌then◌else◌, refl, sym, ap, ◌∙◌, subst, ◌⊎◌, inl, inr}
use Rattle.std.specs.List.{list_any, filter}
use Rattle.std.proofs.lemmas.Bool.Decides.{nat_tests}
use Rattle.std.proofs.lemmas.List.{get_or_push, get_or_append_left, length_push}
use Rattle.clause_base.specs.Literal.{opposite}
use Rattle.clause_base.specs.Clause.{has_literal}
use Rattle.propagation.specs.declared.visit.WatchState.{WatchState}
use Rattle.clause_base.specs.declared.pair.Pair.{Pair}
use Rattle.clause_base.specs.Pairs.{pairs_of, pair_in}
use Rattle.cdcl_tables.specs.Pairs.{HasPair, IsInPairs, IsPairOf, AreExact}
use Rattle.propagation.specs.Pending.{is_free, has_two_free}
use Rattle.cdcl_defs.specs.State.{clause_at}
use Rattle.propagation.specs.own.Asks.{IsAsk}
use Rattle.propagation.specs.own.Visit.{IsFit}
use Rattle.propagation.specs.own.Pairs.{IsUnwatched, HasSlot, IsPaired}
use Rattle.propagation.specs.own.Added.{IsTaken}
use Rattle.propagation.proofs.Filters.{clause_past, count_two, tests_two}
use Rattle.propagation.proofs.published.Assigns.{equal_of, apart_of, free_after}
use Rattle.propagation.proofs.published.Adds.{at_other, at_own}

-- a pair is of a clause that there is, and of a literal
pub pair_within : (cl : List (List ℕ)) (codes code : ℕ) (p : Pair) → IsFit cl codes → IsPairOf cl code p → (p.other < codes) × (p.number < length cl)
pair_within cl codes code p f o = (other o, inside (ltb p.number (length cl)) refl (two o))
  where
    two : IsPairOf cl code p → length (clause_at cl p.number) ≡ 2
    two (inl e) = ap (λ (xs : List ℕ). length xs) e
    two (inr e) = ap (λ (xs : List ℕ). length xs) e

    other : IsPairOf cl code p → p.other < codes
    other (inl e) =
        let l = ap (λ (xs : List ℕ). length xs) e in
        let v = ap (λ (xs : List ℕ). get_or xs 1 0) e in
        omega (arith, v, f.below p.number 1 (omega (arith, l)))
    other (inr e) =
        let l = ap (λ (xs : List ℕ). length xs) e in
        let v = ap (λ (xs : List ℕ). get_or xs 0 0) e in
        omega (arith, v, f.below p.number 0 (omega (arith, l)))

    inside : (b : Bool) → ltb p.number (length cl) ≡ b → length (clause_at cl p.number) ≡ 2 → p.number < length cl
    inside true e l = grind (arith, nat_tests)
    inside false e l =
        let h : length cl ≤ p.number = grind (arith, nat_tests) in
        absurd (omega (arith, l, ap (λ (xs : List ℕ). length xs) (clause_past cl p.number h)))

-- a clause more leaves the pairs right
exact_more : (cl : List (List ℕ)) (k : List ℕ) (ps : List (List Pair)) → AreExact cl ps → AreExact (cl ++ k ∷ []) ps
exact_more cl k ps old code place h = by (old code place h)
  where
    not_last : (xs : List ℕ) → clause_at cl (pair_in (pairs_of ps code) place).number ≡ xs → length xs ≡ 2
        → (pair_in (pairs_of ps code) place).number ≡ length cl → ⊥
    not_last xs e l q = absurd (omega (arith, l, ap (λ (ys : List ℕ). length ys) e, ap (λ (ys : List ℕ). length ys) (clause_past cl (pair_in (pairs_of ps code) place).number (omega (arith, q)))))

    by : IsPairOf cl code (pair_in (pairs_of ps code) place) → IsPairOf (cl ++ k ∷ []) code (pair_in (pairs_of ps code) place)
    by (inl e) = inl (at_other cl k (pair_in (pairs_of ps code) place).number (not_last (code ∷ (pair_in (pairs_of ps code) place).other ∷ []) e refl) ∙ e)
    by (inr e) = inr (at_other cl k (pair_in (pairs_of ps code) place).number (not_last ((pair_in (pairs_of ps code) place).other ∷ code ∷ []) e refl) ∙ e)

-- with a new clause that has a slot, or fewer than two literals
pub paired_add : (v number codes : ℕ) (cl : List (List ℕ)) (k trail : List ℕ) (ps : List (List Pair)) (slots : List ℕ) (l : WatchState) (slots' : List ℕ) (l' : WatchState)
    → IsPaired v cl slots ps → number ≡ length cl → IsTaken k number codes trail slots l slots' l' → IsPaired v (cl ++ k ∷ []) slots' ps
paired_add v number codes cl k trail ps slots l slots' l' i e taken = record {
  long = i.long;
  found = λ c h. by c h (c == length cl) refl;
  exact = exact_more cl k ps i.exact;
}
  where
    own : IsTaken k number codes trail slots l slots' l' → IsUnwatched ps k number ⊎ HasSlot slots' number
    own (inl t) = inl (inr t.short)
    own (inr t) = inr (record {
      slot = length slots;
      inside = omega (arith, ap (λ (ss : List ℕ). length ss) t.slotted, length_push slots number);
      is = ap (λ (ss : List ℕ). get_or ss (length slots) 0) t.slotted ∙ get_or_push slots number 0 (length slots) refl;
    })

    slot_stays : (c : ℕ) → HasSlot slots c → IsTaken k number codes trail slots l slots' l' → HasSlot slots' c
    slot_stays c s (inl t) = subst (λ (ss : List ℕ). HasSlot ss c) (sym t.slots_stay) s
    slot_stays c s (inr t) = record {
      slot = s.slot;
      inside = omega (arith, s.inside, ap (λ (ss : List ℕ). length ss) t.slotted, length_push slots number);
      is = ap (λ (ss : List ℕ). get_or ss s.slot 0) t.slotted ∙ get_or_append_left slots (number ∷ []) 0 s.slot s.inside ∙ s.is;
    }

    old : (c : ℕ) → (c ≡ length cl → ⊥) → IsUnwatched ps (clause_at cl c) c ⊎ HasSlot slots c → IsUnwatched ps (clause_at (cl ++ k ∷ []) c) c ⊎ HasSlot slots' c
    old c ne (inl p) = inl (subst (λ (xs : List ℕ). IsUnwatched ps xs c) (sym (at_other cl k c ne)) p)
    old c ne (inr s) = inr (slot_stays c s taken)

    by : (c : ℕ) → c < length (cl ++ k ∷ []) → (b : Bool) → (c == length cl) ≡ b → IsUnwatched ps (clause_at (cl ++ k ∷ []) c) c ⊎ HasSlot slots' c
    by c h true g =
        let q : c ≡ length cl = equal_of c (length cl) g in
        subst (λ (n : ℕ). IsUnwatched ps (clause_at (cl ++ k ∷ []) c) n ⊎ HasSlot slots' n) (e ∙ sym q)
        (subst (λ (xs : List ℕ). IsUnwatched ps xs number ⊎ HasSlot slots' number) (sym (at_own cl k c q)) (own taken))
    by c h false g =
        let ne : c ≢ length cl = apart_of c (length cl) g in
        old c ne (i.found c (omega (arith, h, length_push cl k, ne)))

-- a clause in a marked list is in the set, unless its other literal is true
marked : (ps : List (List Pair)) (list : List Pair) (code a b k : ℕ) (on s : ℕ → Bool) → HasPair ps a b k → list ≡ pairs_of ps code
    → ((i : ℕ) → i < length list → on (pair_in list i).other ≡ false → s (pair_in list i).number ≡ true) → a ≡ code → on b ≡ false → s k ≡ true
marked ps list code a b k on s h l set e none =
    let same : list ≡ pairs_of ps a = l ∙ ap (λ (x : ℕ). pairs_of ps x) (sym e) in
    let v : pair_in list h.place ≡ record { other = b; number = k } = ap (λ (xs : List Pair). pair_in xs h.place) same ∙ h.is in
    let inside : h.place < length list = subst (λ (xs : List Pair). h.place < length xs) (sym same) h.inside in
    ap (λ (p : Pair). s p.number) (sym v) ∙ set h.place inside (ap (λ (p : Pair). on p.other) v ∙ none)

-- what the test for two tells of two literals
both_free : (p : ℕ → Bool) (a b : ℕ) → not (leb (length (filter p (a ∷ b ∷ []))) 1) ≡ true → (p a ≡ true) × (p b ≡ true)
both_free p a b h = by (p a) (p b) h
  where
    by : (q r : Bool) → not (leb (length (if q then a ∷ (if r then b ∷ [] else []) else (if r then b ∷ [] else []))) 1) ≡ true → (q ≡ true) × (r ≡ true)
    by true true h = (refl, refl)
    by true false h = absurd (let w : ⊥ = cc in w)
    by false true h = absurd (let w : ⊥ = cc in w)
    by false false h = absurd (let w : ⊥ = cc in w)

both_off : (p q : Bool) → (p || (q || false)) ≡ false → (p ≡ false) × (q ≡ false)
both_off true q h = absurd (let w : ⊥ = cc in w)
both_off false true h = absurd (let w : ⊥ = cc in w)
both_off false false h = (refl, refl)

-- a clause of two literals that is pending once a literal is true, and was not, is in the set where its lists are marked
pub pair_pending : (clause : List ℕ) (ps : List (List Pair)) (list : List Pair) (trail : List ℕ) (x k : ℕ) (s : ℕ → Bool) → IsInPairs ps clause k
    → list ≡ pairs_of ps (opposite x)
    → ((i : ℕ) → i < length list → has_literal (trail ++ x ∷ []) (pair_in list i).other ≡ false → s (pair_in list i).number ≡ true)
    → has_two_free (has_literal trail) clause ≡ true → list_any (has_literal (trail ++ x ∷ [])) clause ≡ false
    → has_two_free (has_literal (trail ++ x ∷ [])) clause ≡ false → s k ≡ true
pair_pending clause ps list trail x k s i l set free none less =
    by
    (both_free (is_free on) i.first i.second (ap (λ (xs : List ℕ). has_two_free on xs) (sym i.is) ∙ free))
    (both_off (on' i.first) (on' i.second) (ap (λ (xs : List ℕ). list_any on' xs) (sym i.is) ∙ none))
    (i.first == opposite x) refl (i.second == opposite x) refl
  where
    on : ℕ → Bool
    on = has_literal trail

    on' : ℕ → Bool
    on' = has_literal (trail ++ x ∷ [])

    by : (is_free on i.first ≡ true) × (is_free on i.second ≡ true) → (on' i.first ≡ false) × (on' i.second ≡ false) → (p : Bool)
        → (i.first == opposite x) ≡ p → (q : Bool) → (i.second == opposite x) ≡ q → s k ≡ true
    by f n true g q h = marked ps list (opposite x) i.first i.second k on' s i.has l set (equal_of i.first (opposite x) g) n.1
    by f n false g true h = marked ps list (opposite x) i.second i.first k on' s i.back l set (equal_of i.second (opposite x) h) n.0
    by f n false g false h =
        let fa = free_after trail x i.first f.0 (apart_of i.first (opposite x) g) in
        let fb = free_after trail x i.second f.1 (apart_of i.second (opposite x) h) in
        let c = count_two (is_free on') (i.first ∷ i.second ∷ []) 0 1 (omega arith) (omega arith) (λ (z : 0 ≡ 1). absurd (omega (arith, z))) fa fb in
        let t : has_two_free on' (i.first ∷ i.second ∷ []) ≡ true = tests_two (length (filter (is_free on') (i.first ∷ i.second ∷ []))) c in
        let z : true ≡ false = sym t ∙ ap (λ (xs : List ℕ). has_two_free on' xs) (sym i.is) ∙ less in
        absurd (let w : ⊥ = cc in w)

-- where one of its literals is false the clause of a pair asks for the other
pub pair_ask : (cl : List (List ℕ)) (on : ℕ → Bool) (code : ℕ) (p : Pair) → IsPairOf cl code p → on (opposite code) ≡ true
    → IsAsk on (clause_at cl p.number) p.other
pair_ask cl on code p (inl e) f = subst (λ (xs : List ℕ). IsAsk on xs p.other) (sym e) (inr (record { place = 1; inside = omega arith; own = refl; others = λ i h ne. by i h ne }))
  where
    by : (i : ℕ) → i < 2 → (i ≡ 1 → ⊥) → is_free on (get_or (code ∷ p.other ∷ []) i 0) ≡ false
    by zero h ne = ap (λ (b : Bool). not b) f
    by (suc zero) h ne = absurd (ne refl)
    by (suc (suc i)) h ne = absurd (omega (arith, h))
pair_ask cl on code p (inr e) f = subst (λ (xs : List ℕ). IsAsk on xs p.other) (sym e) (inr (record { place = 0; inside = omega arith; own = refl; others = λ i h ne. by i h ne }))
  where
    by : (i : ℕ) → i < 2 → (i ≡ 0 → ⊥) → is_free on (get_or (p.other ∷ code ∷ []) i 0) ≡ false
    by zero h ne = absurd (ne refl)
    by (suc zero) h ne = ap (λ (b : Bool). not b) f
    by (suc (suc i)) h ne = absurd (omega (arith, h))
