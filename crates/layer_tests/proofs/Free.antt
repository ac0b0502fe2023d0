-- Literals that are not on a trail.
use Rattle.std.proofs.Common.{◌≡◌, ℕ, ◌<◌, ◌==◌, List, [], ◌∷◌, ◌++◌, false, ◌||◌, refl, arith}
use Rattle.std.proofs.lemmas.List.Folds.{list_any-append}
use Rattle.std.proofs.lemmas.Bool.Decides.{nat_tests}
use Rattle.clause_base.specs.Clause.{has_literal}

-- a greater literal is not there after one more
pub still_free : (trail : List ℕ) (l k : ℕ) → has_literal trail k ≡ false → l < k → has_literal (trail ++ l ∷ []) k ≡ false
still_free trail l k h b =
    let e : has_literal (trail ++ l ∷ []) k ≡ (has_literal trail k || ((l == k) || false)) = list_any-append (λ m. m == k) trail (l ∷ []) in
    let n : (l == k) ≡ false = grind (arith, nat_tests) in
    rw (e, h, n) refl
