use Rattle.std.proofs.Common.{arith, ◌≡◌, ◌==◌, ℕ, ◌≤◌, List, [], ◌∷◌, true, ◌&&◌, ◌||◌, refl, sym, ◌∙◌, subst, ◌⊎◌, inl, inr}
use Rattle.std.specs.List.{AllByRecursion}
use Rattle.gt_core.specs.Interference.{has_clause}
use Rattle.gt_core.specs.Published.{Pairwise}
use Rattle.gt_core.specs.Clauses.{IsClause, IsBefore}
use Rattle.gt_core.proofs.published.Basics.{Among, passing, any_at, or_split, or_left, and_split, and_both, same_test, test_same, each_at}
use Rattle.two_invariants.specs.Laws.{OneListOfInvariants}

-- Sorted lists of the same clauses are equal.

not_both : (c d : ℕ × ℕ) → IsBefore c d → IsBefore d c → ⊥
not_both c d (inl a) (inl b) = omega arith
not_both c d (inl a) (inr b) = let e = b.0 in omega arith
not_both c d (inr a) (inl b) = let e = a.0 in omega arith
not_both c d (inr a) (inr b) = let e = a.1 in let f = b.1 in omega arith

first_is : (c d : ℕ × ℕ) → (c ≡ d) ⊎ IsBefore d c → (d ≡ c) ⊎ IsBefore c d → c ≡ d
first_is c d (inl e) h = e
first_is c d (inr b) (inl e) = sym e
first_is c d (inr b) (inr a) = absurd (not_both c d a b)

rest_in : (c d : ℕ × ℕ) (cs ds : List (ℕ × ℕ)) → c ≡ d → AllByRecursion (IsBefore c) cs → ((x : ℕ × ℕ) → Among x (c ∷ cs) → Among x (d ∷ ds)) → (x : ℕ × ℕ) → Among x cs → Among x ds
rest_in c d cs ds same before to x i = by (to x (inr i))
  where
    by : (x ≡ d) ⊎ Among x ds → Among x ds
    by (inl e) = (let b = each_at (IsBefore c) cs x before i in
        let itself : IsBefore c c = subst (IsBefore c) (e ∙ sym same) b in absurd (not_both c c itself itself))
    by (inr j) = j

sorted_same : (cs ds : List (ℕ × ℕ)) → Pairwise IsBefore cs → Pairwise IsBefore ds → ((x : ℕ × ℕ) → Among x cs → Among x ds) → ((x : ℕ × ℕ) → Among x ds → Among x cs) → cs ≡ ds
sorted_same [] [] p q to from = refl
sorted_same [] (d ∷ ds) p q to from = absurd (from d (inl refl))
sorted_same (c ∷ cs) [] p q to from = absurd (to c (inl refl))
sorted_same (c ∷ cs) (d ∷ ds) p q to from =
    let after : (a b : ℕ × ℕ) (xs : List (ℕ × ℕ)) → AllByRecursion (IsBefore b) xs → (a ≡ b) ⊎ Among a xs → (a ≡ b) ⊎ IsBefore b a = λ a b xs all h. elim h [ inl e ↦ inl e | inr i ↦ inr (each_at (IsBefore b) xs a all i) ] in
    let same = first_is c d (after c d ds q.0 (to c (inl refl))) (after d c cs p.0 (from d (inl refl))) in
    let rest = sorted_same cs ds p.1 q.1 (rest_in c d cs ds same p.0 to) (rest_in d c ds cs (sym same) q.0 from) in
    λ i. same i ∷ rest i

member : (cs : List (ℕ × ℕ)) (c : ℕ × ℕ) → Among c cs → has_clause cs c.0 c.1 ≡ true
member cs c i = any_at _ cs c i (or_left _ _ (and_both (c.0 == c.0) _ (same_test c.0 c.0 refl) (same_test c.1 c.1 refl)))

is_member : (facts : ℕ) (cs : List (ℕ × ℕ)) (c : ℕ × ℕ) → AllByRecursion (IsClause facts) cs → c.0 ≤ c.1 → has_clause cs c.0 c.1 ≡ true → Among c cs
is_member facts cs c lawful le t =
    let p = passing (λ (d : ℕ × ℕ). ((d.0 == c.0) && (d.1 == c.1)) || ((d.0 == c.1) && (d.1 == c.0))) cs t in
    by p.one p.among (each_at (IsClause facts) cs p.one lawful p.among).0 (or_split ((p.one.0 == c.0) && (p.one.1 == c.1)) ((p.one.0 == c.1) && (p.one.1 == c.0)) p.passes)
  where
    by : (d : ℕ × ℕ) → Among d cs → d.0 ≤ d.1 → (((d.0 == c.0) && (d.1 == c.1)) ≡ true) ⊎ (((d.0 == c.1) && (d.1 == c.0)) ≡ true) → Among c cs
    by d i low (inl h) =
        let s = and_split (d.0 == c.0) (d.1 == c.1) h in
        let e : d.0 ≡ c.0 = test_same d.0 c.0 s.0 in
        let f : d.1 ≡ c.1 = test_same d.1 c.1 s.1 in
        subst (λ (x : ℕ × ℕ). Among x cs) (λ j. (e j, f j)) i
    by d i low (inr h) =
        let s = and_split (d.0 == c.1) (d.1 == c.0) h in
        let a : d.0 ≡ c.1 = test_same d.0 c.1 s.0 in
        let b : d.1 ≡ c.0 = test_same d.1 c.0 s.1 in
        let e : d.0 ≡ c.0 = omega arith in
        let f : d.1 ≡ c.1 = omega arith in
        subst (λ (x : ℕ × ℕ). Among x cs) (λ j. (e j, f j)) i

carried : (facts : ℕ) (cs ds : List (ℕ × ℕ)) → AllByRecursion (IsClause facts) cs → AllByRecursion (IsClause facts) ds → ((l m : ℕ) → has_clause cs l m ≡ true → has_clause ds l m ≡ true) → (x : ℕ × ℕ) → Among x cs → Among x ds
carried facts cs ds lc ld to x i = is_member facts ds x ld (each_at (IsClause facts) cs x lc i).0 (to x.0 x.1 (member cs x i))

pub one_list : OneListOfInvariants
one_list task clauses others are also =
    sorted_same clauses others are.listed.sorted also.listed.sorted
    (carried task.facts clauses others are.listed.lawful also.listed.lawful (also.greatest (has_clause clauses) are.closed))
    (carried task.facts others clauses also.listed.lawful are.listed.lawful (are.greatest (has_clause others) also.closed))
