use Rattle.std.proofs.Common.{arith, ◌≡◌, ◌==◌, ℕ, ◌+◌, ◌/◌, List, [], ◌∷◌, length, Bool, true, false, refl, sym, ap, ◌∙◌, fold, if◌then◌else◌, nat_lt, inl, inr, Some, None}
use Rattle.std.specs.List.{cons_option, AllByRecursion}
use Rattle.gt_core.specs.Published.{Pairwise}
use Rattle.gt_core.proofs.published.Basics.{Among, apart, not_true, same_test, test_same, passing, any_at, each_at}
use Rattle.clause_base.specs.Literal.{opposite}
use Rattle.clause_base.specs.Clause.{has_literal, has_opposite_pair, clause_of}
use Rattle.containers.specs.Rising.{put}
use Rattle.formula_defs.specs.Coded.{literals_in}
use Rattle.formula_defs.proofs.published.SizeLaw.{not_opposite}
use Rattle.gt_core.proofs.published.Literals.{half_opposite}

-- How many literals a clause has: as many as are listed, where their variables are distinct; none, where it has an
-- opposite pair and is left out.

-- a literal is of another variable
abbrev pub IsOther : ℕ → ℕ → Type 0
IsOther l m = (l / 2 == m / 2) ≡ false

-- literals of distinct variables
abbrev pub AreApart : List ℕ → Type 0
AreApart lits = Pairwise IsOther lits

same_of : (xs : List ℕ) (l m : ℕ) → AreApart xs → Among l xs → Among m xs → l / 2 ≡ m / 2 → l ≡ m
same_of [] l m p a b e = absurd a
same_of (x ∷ xs) l m p (inl s) (inl t) e = s ∙ sym t
same_of (x ∷ xs) l m p (inl s) (inr b) e = absurd (apart (x / 2 == m / 2) (same_test _ _ (ap (λ (k : ℕ). k / 2) (sym s) ∙ e)) (each_at (IsOther x) xs m p.0 b))
same_of (x ∷ xs) l m p (inr a) (inl t) e = absurd (apart (x / 2 == l / 2) (same_test _ _ (ap (λ (k : ℕ). k / 2) (sym t) ∙ sym e)) (each_at (IsOther x) xs l p.0 a))
same_of (x ∷ xs) l m p (inr a) (inr b) e = same_of xs l m p.1 a b e

pub no_pair : (lits : List ℕ) → AreApart lits → has_opposite_pair lits ≡ false
no_pair lits p =
    not_true (has_opposite_pair lits) (λ t.
    let l = passing (λ l. has_literal lits (opposite l)) lits t in
    let m = passing (λ m. m == opposite l.one) lits l.passes in
    let e = test_same m.one (opposite l.one) m.passes in
    let same = same_of lits l.one m.one p l.among m.among (sym (half_opposite l.one) ∙ ap (λ (k : ℕ). k / 2) (sym e)) in
    apart (l.one == opposite l.one) (same_test _ _ (same ∙ e)) (not_opposite l.one))

-- two literals that are there and opposite
pub has_pair : (lits : List ℕ) (l : ℕ) → Among l lits → Among (opposite l) lits → has_opposite_pair lits ≡ true
has_pair lits l a b = any_at (λ l. has_literal lits (opposite l)) lits l a (any_at (λ m. m == opposite l) lits (opposite l) b (same_test _ _ refl))

put_long : (lits : List ℕ) (l : ℕ) → AllByRecursion (λ m. IsOther m l) lits → length (put lits l) ≡ 1 + length lits
put_long [] l h = refl
put_long (m ∷ lits) l h = by (nat_lt m l) (m == l) refl (put_long lits l h.1)
  where
    by : (b c : Bool) → (m == l) ≡ c → length (put lits l) ≡ 1 + length lits → length (if b then m ∷ put lits l else if c then m ∷ lits else l ∷ m ∷ lits) ≡ 1 + length (m ∷ lits)
    by true c e g = omega (arith, g)
    by false true e g = absurd (apart (m / 2 == l / 2) (same_test _ _ (ap (λ (k : ℕ). k / 2) (test_same m l e))) h.0)
    by false false e g = omega arith

put_other : (lits : List ℕ) (l k : ℕ) → AllByRecursion (λ m. IsOther m k) lits → IsOther l k → AllByRecursion (λ m. IsOther m k) (put lits l)
put_other [] l k h g = (g, tt)
put_other (m ∷ lits) l k h g = by (nat_lt m l) (m == l) (put_other lits l k h.1 g)
  where
    by : (b c : Bool) → AllByRecursion (λ m. IsOther m k) (put lits l) → AllByRecursion (λ m. IsOther m k) (if b then m ∷ put lits l else if c then m ∷ lits else l ∷ m ∷ lits)
    by true c r = (h.0, r)
    by false true r = h
    by false false r = (g, h)

-- each literal of one list is of another variable than those of another
abbrev Across : List ℕ → List ℕ → Type 0
Across sorted lits = AllByRecursion (λ k. AllByRecursion (λ m. IsOther m k) sorted) lits

across_put : (sorted : List ℕ) (l : ℕ) (lits : List ℕ) → Across sorted lits → AllByRecursion (IsOther l) lits → Across (put sorted l) lits
across_put sorted l [] h g = tt
across_put sorted l (k ∷ lits) h g = (put_other sorted l k h.0 g.0, across_put sorted l lits h.1 g.1)

fold_long : (sorted lits : List ℕ) → Across sorted lits → AreApart lits → length (fold put sorted lits) ≡ length sorted + length lits
fold_long sorted [] h p = omega arith
fold_long sorted (l ∷ lits) h p =
    let a = put_long sorted l h.0 in
    let b = fold_long (put sorted l) lits (across_put sorted l lits h.1 p.0) p.1 in
    omega (arith, a, b)

across_none : (lits : List ℕ) → Across [] lits
across_none [] = tt
across_none (l ∷ lits) = (tt, across_none lits)

-- a clause of distinct variables has each literal that is listed
pub apart_size : (lits : List ℕ) (rest : List (List ℕ)) → AreApart lits → literals_in (cons_option (clause_of lits) rest) ≡ length lits + literals_in rest
apart_size lits rest p = by (has_opposite_pair lits) (no_pair lits p)
  where
    by : (b : Bool) → b ≡ false → literals_in (cons_option (if b then None else Some (fold put [] lits)) rest) ≡ length lits + literals_in rest
    by true e = absurd (let f : true ≡ false = e in cc)
    by false e = let h = fold_long [] lits (across_none lits) p in omega (arith, h)

-- a clause with an opposite pair is left out
pub pair_size : (lits : List ℕ) (rest : List (List ℕ)) → has_opposite_pair lits ≡ true → literals_in (cons_option (clause_of lits) rest) ≡ literals_in rest
pair_size lits rest p = by (has_opposite_pair lits) p
  where
    by : (b : Bool) → b ≡ true → literals_in (cons_option (if b then None else Some (fold put [] lits)) rest) ≡ literals_in rest
    by true e = refl
    by false e = absurd (let f : false ≡ true = e in cc)

pub other_variable : (l m u v : ℕ) → l / 2 ≡ u → m / 2 ≡ v → (u ≡ v → ⊥) → IsOther l m
other_variable l m u v a b ne = not_true (l / 2 == m / 2) (λ e. ne (sym a ∙ test_same _ _ e ∙ b))

-- two literals of two variables
pub two_size : (l m u v : ℕ) (rest : List (List ℕ)) → l / 2 ≡ u → m / 2 ≡ v → (u ≡ v → ⊥) → literals_in (cons_option (clause_of (l ∷ m ∷ [])) rest) ≡ 2 + literals_in rest
two_size l m u v rest a b ne = apart_size (l ∷ m ∷ []) rest ((other_variable l m u v a b ne, tt), (tt, tt))
