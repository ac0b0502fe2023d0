-- The members of a list of numbers, and tests and facts of each.
use Rattle.std.proofs.Common.{arith, ◌≡◌, ◌==◌, ℕ, zero, suc, ◌<◌, List, [], ◌∷◌, length, Bool, true, false, ◌||◌, ◌&&◌, refl, sym, ap, ◌∙◌, subst, filter, if◌then◌else◌, Some, ◌⊎◌, inl, inr}
use Rattle.std.specs.List.{list_any, slice_get, AllByRecursion}
use Rattle.cdcl_defs.specs.State.{clause_at}
use Rattle.cdcl_defs.proofs.published.Tests.{or_true, and_false, or_split, or_none, same_test, test_same}

-- a number is among these
abbrev pub is_in : List ℕ → ℕ → Bool
is_in lits l = list_any (λ f. f == l) lits

pub head_in : (m : ℕ) (ls : List ℕ) → is_in (m ∷ ls) m ≡ true
head_in m ls = rw (same_test m m refl)

pub tail_in : (l : ℕ) (ls : List ℕ) (m : ℕ) → is_in ls m ≡ true → is_in (l ∷ ls) m ≡ true
tail_in l ls m e = rw e (or_true (l == m))

-- a fact of each member
pub all_members : (P : ℕ → Type 0) (ls : List ℕ) → ((m : ℕ) → is_in ls m ≡ true → P m) → AllByRecursion P ls
all_members P [] h = tt
all_members P (l ∷ ls) h = (h l (head_in l ls), all_members P ls (λ m e. h m (tail_in l ls m e)))

pub member_of : (P : ℕ → Type 0) (ls : List ℕ) (m : ℕ) → AllByRecursion P ls → is_in ls m ≡ true → P m
member_of P [] m a e = cc
member_of P (l ∷ ls) m a e = by (member_of P ls m a.1) (or_split (l == m) (is_in ls m) e)
  where
    by : (is_in ls m ≡ true → P m) → ((l == m) ≡ true) ⊎ (is_in ls m ≡ true) → P m
    by on (inl s) = subst P (test_same l m s) a.0
    by on (inr s) = on s

-- a test that no member passes
pub none_in : (p : ℕ → Bool) (ls : List ℕ) → ((m : ℕ) → is_in ls m ≡ true → p m ≡ false) → list_any p ls ≡ false
none_in p [] h = refl
none_in p (l ∷ ls) h = rw (h l (head_in l ls)) (none_in p ls (λ m e. h m (tail_in l ls m e)))

pub none_passes : (p : ℕ → Bool) (ls : List ℕ) (m : ℕ) → list_any p ls ≡ false → is_in ls m ≡ true → p m ≡ false
none_passes p [] m e h = cc
none_passes p (l ∷ ls) m e h =
    let q = or_none (p l) (list_any p ls) e in by (or_split (l == m) (is_in ls m) h) q.0 (none_passes p ls m q.1)
  where
    by : ((l == m) ≡ true) ⊎ (is_in ls m ≡ true) → p l ≡ false → (is_in ls m ≡ true → p m ≡ false) → p m ≡ false
    by (inl s) f g = ap p (sym (test_same l m s)) ∙ f
    by (inr s) f g = g s

filter_by : (p : ℕ → Bool) (l : ℕ) (lits : List ℕ) (m : ℕ) (pl same : Bool) → p l ≡ pl → (l == m) ≡ same → is_in (filter p lits) m ≡ (is_in lits m && p m) → is_in (if pl then l ∷ filter p lits else filter p lits) m ≡ ((l == m || is_in lits m) && p m)
filter_by p l lits m true true e f h =
    let k : l ≡ m = test_same l m f in
    let pm : p m ≡ true = ap p (sym k) ∙ e in
    rw (f, pm)
filter_by p l lits m true false e f h = rw f h
filter_by p l lits m false true e f h =
    let k : l ≡ m = test_same l m f in
    let pm : p m ≡ false = ap p (sym k) ∙ e in
    let none : is_in (filter p lits) m ≡ false = h ∙ ap (λ b. is_in lits m && b) pm ∙ and_false (is_in lits m) in
    rw (f, pm) none
filter_by p l lits m false false e f h = rw f h

-- the members that pass a test
pub is_in-filter : (p : ℕ → Bool) (lits : List ℕ) (m : ℕ) → is_in (filter p lits) m ≡ (is_in lits m && p m)
is_in-filter p [] m = refl
is_in-filter p (l ∷ lits) m = filter_by p l lits m (p l) (l == m) refl refl (is_in-filter p lits m)

-- what holds of each clause and of the empty one holds of the clause with a number
pub at_clause : (P : List ℕ → Type 0) (clauses : List (List ℕ)) (n : ℕ) → P [] → AllByRecursion P clauses → P (clause_at clauses n)
at_clause P [] n z a = z
at_clause P (c ∷ clauses) zero z a = a.0
at_clause P (c ∷ clauses) (suc n) z a = at_clause P clauses n z a.1

-- a number that is in range names its clause
pub clause_named : (clauses : List (List ℕ)) (n : ℕ) → n < length clauses → slice_get clauses n ≡ Some (clause_at clauses n)
clause_named [] n h = absurd (omega arith)
clause_named (c ∷ clauses) zero h = refl
clause_named (c ∷ clauses) (suc n) h = clause_named clauses n (omega arith)

-- and only such a number names one
pub named_below : (clauses : List (List ℕ)) (n : ℕ) (k : List ℕ) → slice_get clauses n ≡ Some k → n < length clauses
named_below [] n k e = cc
named_below (c ∷ clauses) zero k e = omega arith
named_below (c ∷ clauses) (suc n) k e = let h = named_below clauses n k e in omega arith
