-- The values of a trail, and that they satisfy the formula where every variable has one and no clause is pending.
use Rattle.std.proofs.Common.{arith, ◌≡◌, ◌==◌, ℕ, zero, suc, ◌+◌, ◌-◌, ◌*◌, ◌/◌, ◌%◌, ◌<◌, ◌≤◌, List, [], ◌∷◌, ◌++◌, length, reverse, Bool, true, false, not, ◌||◌, ◌&&◌, refl, sym, ap, ◌∙◌, subst, filter, if◌then◌else◌, nat_le, Option, Some, None, IsSome, ◌⊎◌, inl, inr, length-append}
use Rattle.std.specs.List.{list_any, AllByRecursion}
use Rattle.std.proofs.Math.Nat.{eq-or-lt_of_le}
use Rattle.std.proofs.lemmas.Bool.Decides.{nat_tests}
use Rattle.std.proofs.lemmas.List.Elements.{recursion_from_All}
use Rattle.clause_base.specs.Literal.{opposite, literal_value}
use Rattle.clause_base.specs.Clause.{clause_value}
use Rattle.clause_base.specs.Formula.{Cnf, Satisfies}
use Rattle.clause_base.specs.Derivation.{clauses_of, clause_kept}
use Rattle.cdcl_defs.specs.declared.trail.Assigned.{Assigned}
use Rattle.cdcl_defs.specs.State.{State, clause_at, is_on, value_of, values_from}
use Rattle.cdcl_defs.specs.Trail.{IsTrail}
use Rattle.cdcl_defs.specs.Pending.{open_ones, first_pending}
use Rattle.cdcl_defs.proofs.published.Tests.{or_true, apart}
use Rattle.cdcl_defs.proofs.published.Members.{member_of, none_in, none_passes}
use Rattle.cdcl_defs.proofs.published.Measure.{sides}
use Rattle.cdcl_defs.proofs.published.Pending.{none_pending}
use Rattle.cdcl_defs.proofs.published.Trails.{is_on-reverse, trail_apart}
use Rattle.cdcl_defs.specs.Sound.{IsLawful, IsSound, made_true}
use Rattle.cdcl_defs.proofs.published.Lawful.{HasMembersBelow}

pub valued_from : (trail : List Assigned) (v n : ℕ) → AllByRecursion (λ o. IsSome o) (values_from trail v n) → (u : ℕ) → v ≤ u → u < v + n → IsSome (value_of trail u)
valued_from trail v zero a u h l = absurd (omega arith)
valued_from trail v (suc n) a u h l = by (eq-or-lt_of_le h) (λ (k : v + 1 ≤ u). valued_from trail (v + 1) n a.1 u k (omega arith))
  where
    by : (v ≡ u) ⊎ (v < u) → (v + 1 ≤ u → IsSome (value_of trail u)) → IsSome (value_of trail u)
    by (inl s) on = subst (λ (w : ℕ). IsSome (value_of trail w)) s a.0
    by (inr m) on = on (omega arith)

known_by : (p q : Bool) → IsSome (if p then Some true else if q then Some false else None) → (p ≡ true) ⊎ (q ≡ true)
known_by true q h = inl refl
known_by false true h = inr refl
known_by false false h = let z : false ≡ true = h in cc

known : (trail : List Assigned) (l : ℕ) → IsSome (value_of trail (l / 2)) → (is_on trail l ≡ true) ⊎ (is_on trail (opposite l) ≡ true)
known trail l h = by (sides l (l % 2 == 0) refl) (known_by (is_on trail (2 * (l / 2))) (is_on trail (2 * (l / 2) + 1)) h)
  where
    by : ((l ≡ 2 * (l / 2)) × (opposite l ≡ 2 * (l / 2) + 1)) ⊎ ((l ≡ 2 * (l / 2) + 1) × (opposite l ≡ 2 * (l / 2))) → (is_on trail (2 * (l / 2)) ≡ true) ⊎ (is_on trail (2 * (l / 2) + 1) ≡ true) → (is_on trail l ≡ true) ⊎ (is_on trail (opposite l) ≡ true)
    by (inl s) (inl e) = inl (ap (is_on trail) s.0 ∙ e)
    by (inl s) (inr e) = inr (ap (is_on trail) s.1 ∙ e)
    by (inr s) (inl e) = inr (ap (is_on trail) s.1 ∙ e)
    by (inr s) (inr e) = inl (ap (is_on trail) s.0 ∙ e)

filter_nothing : (p : ℕ → Bool) (ls : List ℕ) → list_any p ls ≡ false → filter p ls ≡ []
filter_nothing p [] e = refl
filter_nothing p (l ∷ ls) e = by (p l) refl (filter_nothing p ls)
  where
    by : (b : Bool) → p l ≡ b → (list_any p ls ≡ false → filter p ls ≡ []) → filter p (l ∷ ls) ≡ []
    by true f on = let z : true ≡ false = ap (λ (c : Bool). c || list_any p ls) (sym f) ∙ e in cc
    by false f on = rw f (on (ap (λ (c : Bool). c || list_any p ls) (sym f) ∙ e))

off_open : (trail : List Assigned) (n : ℕ) (clause : List ℕ) → HasMembersBelow n clause → ((u : ℕ) → u < n → IsSome (value_of trail u)) → list_any (is_on trail) clause ≡ false → open_ones (is_on trail) clause ≡ []
off_open trail n clause b v a = filter_nothing (λ l. not (is_on trail (opposite l))) clause (none_in (λ l. not (is_on trail (opposite l))) clause (λ m e. by m (none_passes (is_on trail) clause m a e) (known trail m (v (m / 2) (b m e)))))
  where
    by : (m : ℕ) → is_on trail m ≡ false → (is_on trail m ≡ true) ⊎ (is_on trail (opposite m) ≡ true) → not (is_on trail (opposite m)) ≡ false
    by m f (inl t) = absurd (apart (is_on trail m) t f)
    by m f (inr t) = ap not t

true_literal : (named : ℕ → Option (List ℕ)) (trail : List Assigned) (l : ℕ) (even : Bool) → (l % 2 == 0) ≡ even → IsTrail named (reverse trail) → is_on trail l ≡ true → (if even then made_true trail (l / 2) else not (made_true trail (l / 2))) ≡ true
true_literal named trail l true e t o = let s : 2 * (l / 2) ≡ l = grind (arith, nat_tests) in ap (is_on trail) s ∙ o
true_literal named trail l false e t o =
    let s : l - 1 ≡ 2 * (l / 2) = grind (arith, nat_tests) in
    let u : opposite l ≡ 2 * (l / 2) = ap (λ (b : Bool). if b then l + 1 else l - 1) e ∙ s in
    off (is_on trail (2 * (l / 2))) refl u
  where
    off : (b : Bool) → is_on trail (2 * (l / 2)) ≡ b → opposite l ≡ 2 * (l / 2) → not b ≡ true
    off true f u = absurd (trail_apart named (reverse trail) l t (is_on-reverse trail l ∙ o) (is_on-reverse trail (opposite l) ∙ ap (is_on trail) u ∙ f))
    off false f u = refl

any_weaker : (p q : ℕ → Bool) (ls : List ℕ) → ((m : ℕ) → p m ≡ true → q m ≡ true) → list_any p ls ≡ true → list_any q ls ≡ true
any_weaker p q [] h e = e
any_weaker p q (l ∷ ls) h e = by (p l) refl (any_weaker p q ls h)
  where
    by : (b : Bool) → p l ≡ b → (list_any p ls ≡ true → list_any q ls ≡ true) → list_any q (l ∷ ls) ≡ true
    by true f on = rw (h l f)
    by false f on = rw (on (ap (λ (c : Bool). c || list_any p ls) (sym f) ∙ e)) (or_true (q l))

unvalued_by : (p q : Bool) → (if p then Some true else if q then Some false else None) ≡ None → (p ≡ false) × (q ≡ false)
unvalued_by true q h = cc
unvalued_by false true h = cc
unvalued_by false false h = (refl, refl)

-- a variable without a value has neither literal on the trail
pub unvalued : (trail : List Assigned) (l : ℕ) → value_of trail (l / 2) ≡ None → (is_on trail l ≡ false) × (is_on trail (opposite l) ≡ false)
unvalued trail l h = by (sides l (l % 2 == 0) refl) (unvalued_by (is_on trail (2 * (l / 2))) (is_on trail (2 * (l / 2) + 1)) h)
  where
    by : ((l ≡ 2 * (l / 2)) × (opposite l ≡ 2 * (l / 2) + 1)) ⊎ ((l ≡ 2 * (l / 2) + 1) × (opposite l ≡ 2 * (l / 2))) → (is_on trail (2 * (l / 2)) ≡ false) × (is_on trail (2 * (l / 2) + 1) ≡ false) → (is_on trail l ≡ false) × (is_on trail (opposite l) ≡ false)
    by (inl s) e = (ap (is_on trail) s.0 ∙ e.0, ap (is_on trail) s.1 ∙ e.1)
    by (inr s) e = (ap (is_on trail) s.0 ∙ e.1, ap (is_on trail) s.1 ∙ e.0)

-- a clause over variables that all have values, and that is not pending, has a true literal
has_true : (trail : List Assigned) (n : ℕ) (clause : List ℕ) (t : Bool) → HasMembersBelow n clause → ((u : ℕ) → u < n → IsSome (value_of trail u)) → list_any (is_on trail) clause ≡ t → (not t && nat_le (length (open_ones (is_on trail) clause)) 1) ≡ false → t ≡ true
has_true trail n clause true b v a e = refl
has_true trail n clause false b v a e =
    let h : nat_le (length (open_ones (is_on trail) clause)) 1 ≡ true = ap (λ (ls : List ℕ). nat_le (length ls) 1) (off_open trail n clause b v a) in
    let z : true ≡ false = sym h ∙ e in cc

-- what holds of the clause with each number holds of each clause
each_clause : (P : List ℕ → Type 0) (clauses : List (List ℕ)) → ((n : ℕ) → n < length clauses → P (clause_at clauses n)) → AllByRecursion P clauses
each_clause P [] h = tt
each_clause P (c ∷ clauses) h = (h 0 (omega arith), each_clause P clauses (λ n l. h (suc n) (omega arith)))

members : (n : ℕ) (c : List ℕ) → IsLawful n c → HasMembersBelow n c
members n c l m e = member_of (λ k. k / 2 < n) c m (recursion_from_All (λ k. k / 2 < n) c l.below) e

lawful_clause : (n : ℕ) (clauses : List (List ℕ)) (i : ℕ) → AllByRecursion (IsLawful n) clauses → HasMembersBelow n (clause_at clauses i)
lawful_clause n [] i a m e = cc
lawful_clause n (c ∷ clauses) zero a m e = members n c a.0 m e
lawful_clause n (c ∷ clauses) (suc i) a m e = lawful_clause n clauses i a.1 m e

same_clause : (clauses more : List (List ℕ)) (n : ℕ) → n < length clauses → clause_at (clauses ++ more) n ≡ clause_at clauses n
same_clause [] more n h = absurd (omega arith)
same_clause (c ∷ clauses) more zero h = refl
same_clause (c ∷ clauses) more (suc n) h = same_clause clauses more n (omega arith)

-- the formula's clauses are kept, so none of them is pending, and each is true
pub all_true : (f : Cnf) (s : State) → IsSound f s → ((u : ℕ) → u < f.variables → IsSome (value_of s.trail u)) → first_pending s ≡ None → Satisfies (made_true s.trail) f.clauses
all_true f s o v a = each_clause (λ c. clause_value (made_true s.trail) c ≡ true) f.clauses one
  where
    one : (n : ℕ) → n < length f.clauses → clause_value (made_true s.trail) (clause_at f.clauses n) ≡ true
    one n h =
        let long : length f.clauses ≤ length s.clauses = omega (arith, ap (λ (cs : List (List ℕ)). length cs) o.logged.clauses_are, length-append f.clauses (clauses_of s.log)) in
        let here : clause_at s.clauses n ≡ clause_at f.clauses n = ap (λ (cs : List (List ℕ)). clause_at cs n) o.logged.clauses_are ∙ same_clause f.clauses (clauses_of s.log) n h in
        let c = clause_at s.clauses n in
        let quiet = none_pending s a n (omega arith) (o.logged.formula_kept n h) in
        let t = has_true s.trail f.variables c (list_any (is_on s.trail) c) (lawful_clause f.variables s.clauses n o.lawful) v refl quiet in
        let w = any_weaker (is_on s.trail) (literal_value (made_true s.trail)) c (λ m e. true_literal (clause_kept f.clauses s.log) s.trail m (m % 2 == 0) refl o.trail e) t in
        ap (clause_value (made_true s.trail)) (sym here) ∙ w
