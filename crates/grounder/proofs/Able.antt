-- Elements that are read one after the other, and those of them that pass a test.
use Rattle.std.proofs.Common.{◌≡◌, ℕ, zero, suc, ◌+◌, Bool, true, false, cond, List, [], ◌∷◌, ◌++◌, ◌≤◌, length, take, refl, ap, sym, subst, ◌∙◌, add-one, Some, arith, length-append}
use Rattle.std.specs.Prelude.{slice_get}
use Rattle.std.specs.List.{filter}
use Rattle.std.proofs.lemmas.List.{append-nil}

one_passed : {X : Type 0} (test : X → Bool) (xs : List X) (i : ℕ) (x : X) → slice_get xs i ≡ Some x → filter test (take (suc i) xs) ≡ filter test (take i xs) ++ cond (test x) (x ∷ []) []
one_passed test [] i x at = absurd (cc)
one_passed {X} test (y ∷ xs) zero x at =
    let same : y ≡ x = cc in
    subst (λ (z : X). cond (test y) (y ∷ []) [] ≡ cond (test z) (z ∷ []) []) same refl
one_passed {X} test (y ∷ xs) (suc i) x at = here (test y) (one_passed test xs i x at)
  where
    here : (b : Bool) → filter test (take (suc i) xs) ≡ filter test (take i xs) ++ cond (test x) (x ∷ []) []
        → cond b (y ∷ filter test (take (suc i) xs)) (filter test (take (suc i) xs)) ≡ cond b (y ∷ filter test (take i xs)) (filter test (take i xs)) ++ cond (test x) (x ∷ []) []
    here true e = ap (λ (zs : List X). y ∷ zs) e
    here false e = e

-- one more element, which is added where it passes the test
pub passed_more : {X : Type 0} (test : X → Bool) (xs : List X) (i : ℕ) (x : X) (old new : List X) → slice_get xs i ≡ Some x
    → old ≡ filter test (take i xs) → new ≡ cond (test x) (old ++ x ∷ []) old → new ≡ filter test (take (i + 1) xs)
passed_more {X} test xs i x old new at so_far one =
    one ∙ apart (test x) ∙ ap (λ (zs : List X). zs ++ cond (test x) (x ∷ []) []) so_far
    ∙ sym (ap (λ (n : ℕ). filter test (take n xs)) (add-one i) ∙ one_passed test xs i x at)
  where
    apart : (b : Bool) → cond b (old ++ x ∷ []) old ≡ old ++ cond b (x ∷ []) []
    apart true = refl
    apart false = sym (append-nil old)

-- and is counted where it passes
pub counted_more : {X : Type 0} (test : X → Bool) (xs : List X) (i : ℕ) (x : X) (b : Bool) (old new : ℕ) → slice_get xs i ≡ Some x → b ≡ test x
    → old ≡ length (filter test (take i xs)) → new ≡ cond b (old + 1) old → new ≡ length (filter test (take (i + 1) xs))
counted_more {X} test xs i x b old new at is so_far one =
    one ∙ (λ j. cond (is j) (so_far j + 1) (so_far j)) ∙ apart (test x)
    ∙ ap (λ (zs : List X). length zs) (sym (ap (λ (n : ℕ). filter test (take n xs)) (add-one i) ∙ one_passed test xs i x at))
  where
    apart : (c : Bool) → cond c (length (filter test (take i xs)) + 1) (length (filter test (take i xs))) ≡ length (filter test (take i xs) ++ cond c (x ∷ []) [])
    apart true = sym (length-append (filter test (take i xs)) (x ∷ []))
    apart false = ap (λ (zs : List X). length zs) (sym (append-nil (filter test (take i xs))))

pub counted_few : (b : Bool) (i old new : ℕ) → old ≤ i → new ≡ cond b (old + 1) old → new ≤ i + 1
counted_few true i old new few one = omega (arith, few, one)
counted_few false i old new few one = omega (arith, few, one)
