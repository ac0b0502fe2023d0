use Rattle.std.proofs.Common.{arith, ◌≡◌, ◌==◌, ℕ, zero, suc, ◌+◌, ◌-◌, ◌<◌, List, ◌∷◌, map, length, Bool, true, false, if◌then◌else◌, refl, ap, ◌∙◌}
use Rattle.gt_core.specs.Literal.{range_from, range}
use Rattle.gt_core.proofs.published.Basics.{not_true, test_same}
use Rattle.step_laws.specs.Form.{set_at}

-- The sets of a list of steps by their time.

pub set_next : (x : List ℕ) (xs : List (List ℕ)) (t : ℕ) → set_at (x ∷ xs) (t + 1) ≡ set_at xs t
set_next x xs t = by (t + 1 == 0) (not_true (t + 1 == 0) (λ e. let q = test_same (t + 1) 0 e in omega (arith, q)))
  where
    by : (b : Bool) → b ≡ false → (if b then x else set_at xs (t + 1 - 1)) ≡ set_at xs t
    by true e = absurd (let f : true ≡ false = e in cc)
    by false e = let q : t + 1 - 1 ≡ t = omega arith in ap (set_at xs) q

set_from : (f : ℕ → List ℕ) (first n t : ℕ) → t < n → set_at (map f (range_from first n)) t ≡ f (first + t)
set_from f first zero t lt = absurd (omega arith)
set_from f first (suc n) zero lt = let z : first ≡ first + 0 = omega arith in ap f z
set_from f first (suc n) (suc t) lt =
    let s : suc t ≡ t + 1 = omega arith in
    let z : (first + 1) + t ≡ first + suc t = omega arith in
    ap (set_at (f first ∷ map f (range_from (first + 1) n))) s ∙ set_next (f first) (map f (range_from (first + 1) n)) t ∙ set_from f (first + 1) n t (omega arith) ∙ ap f z

-- of the sets of the first n times
pub set_of : (f : ℕ → List ℕ) (n t : ℕ) → t < n → set_at (map f (range n)) t ≡ f t
set_of f n t lt = let z : 0 + t ≡ t = omega arith in set_from f 0 n t lt ∙ ap f z

pub sets_from : (f : ℕ → List ℕ) (first n : ℕ) → length (map f (range_from first n)) ≡ n
sets_from f first zero = refl
sets_from f first (suc n) = let h = sets_from f (first + 1) n in omega arith
