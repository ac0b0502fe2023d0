-- Lists with one item more.
use Rattle.std.proofs.Common.{arith, ◌≡◌, ◌+◌, ◌≤◌, ℕ, List, [], ◌∷◌, ◌++◌, length, length-append, sym, subst}
use Rattle.std.specs.List.{AllByRecursion}

-- a fact of each item, of one item more
each_more : {A : Type 0} (P : A → Type 0) (xs : List A) (x : A) → AllByRecursion P xs → P x → AllByRecursion P (xs ++ x ∷ [])
each_more P [] x all here = (here, tt)
each_more P (y ∷ xs) x all here = (all.0, each_more P xs x all.1 here)

-- clauses, not more than a count, and one clause more
pub few_more : (count : ℕ) (old new : List (List ℕ)) (clause : List ℕ) → new ≡ old ++ clause ∷ [] → length old ≤ count → length new ≤ count + 1
few_more count old new clause is few = let long : length (old ++ clause ∷ []) ≡ length old + 1 = length-append old (clause ∷ []) in rw is (omega (arith, long))

-- what holds of each clause
pub over_more : (P : List ℕ → Type 0) (old new : List (List ℕ)) (clause : List ℕ) → new ≡ old ++ clause ∷ [] → AllByRecursion P old → P clause → AllByRecursion P new
over_more P old new clause is all here = subst (AllByRecursion P) (sym is) (each_more P old clause all here)
