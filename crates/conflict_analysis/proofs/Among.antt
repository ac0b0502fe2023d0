-- Whether a number is among rising ones, by what a binary search says.
use Rattle.std.proofs.Common.{arith, ◌≡◌, ◌==◌, ℕ, zero, suc, ◌≤◌, ◌<◌, List, [], ◌∷◌, length, get_or, false, refl, sym, Result, Ok, Err, inl, inr}
use Rattle.std.specs.List.{list_any}
use Rattle.std.specs.List.Sorted.{IsBinarySearchResult}
use Rattle.std.specs.Result.{is_ok}
use Rattle.std.specs.Ordering.{nat_cmp}
use Rattle.std.proofs.lemmas.Bool.{cases_lt}
use Rattle.std.proofs.lemmas.Bool.Decides.{nat_tests}
use Rattle.std.proofs.lemmas.List.Folds.{list_any_at}
use Rattle.std.proofs.lemmas.List.Sorted.{searched}
use Rattle.clause_base.specs.Clause.{IsRising}
use Rattle.clause_base.proofs.published.ClauseLemmas.{not_falling}
use Rattle.cdcl_defs.proofs.published.Tests.{same_test}

-- a number that is nowhere
nowhere : (xs : List ℕ) (x : ℕ) → ((k : ℕ) → k < length xs → (get_or xs k 0 == x) ≡ false) → list_any (λ y. y == x) xs ≡ false
nowhere [] x h = refl
nowhere (y ∷ xs) x h = rw (h 0 (omega arith)) (nowhere xs x (λ k l. h (suc k) (omega arith)))

pub among : (xs : List ℕ) (x : ℕ) (r : Result ℕ ℕ) → IsBinarySearchResult (λ y. nat_cmp y x) xs r → IsRising xs → is_ok r ≡ list_any (λ y. y == x) xs
among xs x (Ok i) s up =
    let h = searched xs x (Ok i) s (not_falling xs up) in sym (list_any_at (λ y. y == x) xs i 0 h.0 (same_test (get_or xs i 0) x h.1))
among xs x (Err i) s up =
    let h = searched xs x (Err i) s (not_falling xs up) in
    sym (nowhere xs x (λ k l. elim (cases_lt k i) [
      | inl b ↦ let below = h.1 k b in grind (arith, nat_tests)
      | inr a ↦ let above = h.2 k a l in grind (arith, nat_tests)
    ]))
