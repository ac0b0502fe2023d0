-- A vector that was emptied, and is filled with equal items.
use Rattle.std.proofs.Common.{arith, ◌≡◌, ℕ, ◌-◌, List, [], ◌++◌, take, replicate, ap, ◌∙◌}
use Rattle.std.proofs.Math.Seq.{take-nil}

pub filled : (A : Type 0) (old new : List A) (len count : ℕ) (x : A) → new ≡ take count old ++ replicate (count - len) x → old ≡ [] → len ≡ 0 → new ≡ replicate count x
filled A old new len count x h e l =
    let n : count - len ≡ count = omega (arith, l) in
    h
    ∙ ap (λ (k : ℕ). take count old ++ replicate k x) n
    ∙ ap (λ (xs : List A). take count xs ++ replicate count x) e
    ∙ ap (λ (xs : List A). xs ++ replicate count x) (take-nil count)
