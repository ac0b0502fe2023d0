-- Literals below a bound stay below one where they are moved, turned or made a clause.
use Rattle.std.proofs.Common.{arith, ◌≡◌, ◌==◌, ◌∙◌, ℕ, zero, suc, ◌+◌, ◌-◌, ◌*◌, ◌/◌, ◌%◌, ◌<◌, ◌≤◌, List, [], ◌∷◌, ◌++◌, map, Bool, true, false, fold, nat_lt, refl, sym, ap, subst, slice_get, Option, Some, None, if◌then◌else◌}
use Rattle.std.specs.List.{AllByRecursion}
use Rattle.std.proofs.lemmas.Bool.Decides.{nat_tests}
use Rattle.containers.specs.Rising.{put}
use Rattle.gt_core.specs.Literal.{opposite}
use Rattle.std.proofs.lemmas.List.{append-nil, append_assoc}
use Rattle.clause_base.specs.Clause.{HasVariablesBelow, has_opposite_pair, clause_of}
use Rattle.formula_defs.proofs.published.Within.{all_of}
use Rattle.never_form.specs.own.Parts.{moved, some, Fits}
use Rattle.never_form.proofs.Turns.{each_got}

put_below : (n : ℕ) (lits : List ℕ) (l : ℕ) → l / 2 < n → AllByRecursion (λ m. m / 2 < n) lits → AllByRecursion (λ m. m / 2 < n) (put lits l)
put_below n [] l h a = (h, tt)
put_below n (m ∷ lits) l h a = by (nat_lt m l) (m == l) (put_below n lits l h a.1)
  where
    by : (b c : Bool) → AllByRecursion (λ k. k / 2 < n) (put lits l) → AllByRecursion (λ k. k / 2 < n) (if b then m ∷ put lits l else if c then m ∷ lits else l ∷ m ∷ lits)
    by true c p = (a.0, p)
    by false true p = a
    by false false p = (h, a)

fold_below : (n : ℕ) (sorted lits : List ℕ) → AllByRecursion (λ m. m / 2 < n) sorted → AllByRecursion (λ m. m / 2 < n) lits → AllByRecursion (λ m. m / 2 < n) (fold put sorted lits)
fold_below n sorted [] a b = a
fold_below n sorted (l ∷ lits) a b = fold_below n (put sorted l) lits (put_below n sorted l b.0 a) b.1

-- a clause has the variables of its literals
pub clause_below : (n : ℕ) (lits : List ℕ) → AllByRecursion (λ m. m / 2 < n) lits → HasVariablesBelow n (fold put [] lits)
clause_below n lits h = all_of (λ m. m / 2 < n) (fold put [] lits) (fold_below n [] lits tt h)

pub of_below : (n : ℕ) (lits clause : List ℕ) (o : Option (List ℕ)) → o ≡ clause_of lits → o ≡ Some clause → AllByRecursion (λ m. m / 2 < n) lits → HasVariablesBelow n clause
of_below n lits clause o e is h = by (has_opposite_pair lits) (sym e ∙ is)
  where
    by : (b : Bool) → (if b then None else Some (fold put [] lits)) ≡ Some clause → HasVariablesBelow n clause
    by true f = absurd (cc)
    by false f = let s : fold put [] lits ≡ clause = cc in subst (HasVariablesBelow n) s (clause_below n lits h)

-- moved literals have variables
pub moved_below : (base n : ℕ) (lits : List ℕ) → Fits base n lits → AllByRecursion (λ m. m / 2 < n) (moved base lits)
moved_below base n [] h = tt
moved_below base n (l ∷ lits) h = let lt = h.0 in (omega arith, moved_below base n lits h.1)

pub some_below : (first count n : ℕ) → first + count ≤ n → AllByRecursion (λ m. m / 2 < n) (some first count)
some_below first zero n le = tt
some_below first (suc count) n le = (omega arith, some_below (first + 1) count n (omega arith))

-- variables that were noted one after another, with one more
pub some_turn : (first count k : ℕ) (old new : List ℕ) → k < count → some first count ≡ old ++ some (first + k) (count - k) → new ≡ old ++ 2 * (first + k) ∷ []
    → some first count ≡ new ++ some (first + (k + 1)) (count - (k + 1))
some_turn first count k old new lt h is =
    let e : count - k ≡ suc (count - (k + 1)) = omega arith in
    let f : (first + k) + 1 ≡ first + (k + 1) = omega arith in
    h ∙ ap (λ (n : ℕ). old ++ some (first + k) n) e ∙ sym (append_assoc old (2 * (first + k) ∷ []) (some ((first + k) + 1) (count - (k + 1))))
    ∙ ap (λ (xs : List ℕ). xs ++ some ((first + k) + 1) (count - (k + 1))) (sym is) ∙ ap (λ (n : ℕ). new ++ some n (count - (k + 1))) f

-- and all of them
pub some_end : (first count k : ℕ) (lits now : List ℕ) → count ≤ k → some first count ≡ lits ++ some (first + k) (count - k) → now ≡ lits → now ≡ some first count
some_end first count k lits now le h is =
    let e : count - k ≡ 0 = omega arith in
    is ∙ sym (h ∙ ap (λ (n : ℕ). lits ++ some (first + k) n) e ∙ append-nil lits)

-- literals of facts fit where the facts end at the bound
pub fit : (base top n : ℕ) (lits : List ℕ) → base + top ≤ 2 * n → AllByRecursion (λ l. l < top) lits → Fits base n lits
fit base top n [] le h = tt
fit base top n (l ∷ lits) le h = let lt = h.0 in (omega arith, fit base top n lits le h.1)

turned_below : (facts l : ℕ) → l < 2 * facts → opposite l < 2 * facts
turned_below facts l lt = by (l % 2 == 0) refl
  where
    by : (b : Bool) → (l % 2 == 0) ≡ b → (if b then l + 1 else l - 1) < 2 * facts
    by true e = let m : l % 2 ≡ 0 = grind (arith, nat_tests) in omega arith
    by false e = omega arith

pub all_turned : (facts : ℕ) (lits : List ℕ) → AllByRecursion (λ l. l < 2 * facts) lits → AllByRecursion (λ l. l < 2 * facts) (map opposite lits)
all_turned facts [] h = tt
all_turned facts (l ∷ lits) h = (turned_below facts l h.0, all_turned facts lits h.1)

-- each of some clauses fits, as it is or turned
pub all_fit : (base facts n : ℕ) (cs : List (List ℕ)) → base + 2 * facts ≤ 2 * n → AllByRecursion (AllByRecursion (λ l. l < 2 * facts)) cs → AllByRecursion (Fits base n) cs
all_fit base facts n [] le h = tt
all_fit base facts n (c ∷ cs) le h = (fit base (2 * facts) n c le h.0, all_fit base facts n cs le h.1)

pub turned_fit : (base facts n : ℕ) (cs : List (List ℕ)) → base + 2 * facts ≤ 2 * n → AllByRecursion (AllByRecursion (λ l. l < 2 * facts)) cs → AllByRecursion (λ c. Fits base n (map opposite c)) cs
turned_fit base facts n [] le h = tt
turned_fit base facts n (c ∷ cs) le h = (fit base (2 * facts) n (map opposite c) le (all_turned facts c h.0), turned_fit base facts n cs le h.1)

-- the literals of one of some clauses, as they were moved
pub moved_at : (base n m : ℕ) (cs : List (List ℕ)) (k : ℕ) (c now : List ℕ) → slice_get cs k ≡ Some c → AllByRecursion (Fits base n) cs → m ≡ n → now ≡ moved base c → AllByRecursion (λ l. l / 2 < m) now
moved_at base n m cs k c now at h same is = rw (same, is) (moved_below base n c (each_got (Fits base n) cs k c at h))
