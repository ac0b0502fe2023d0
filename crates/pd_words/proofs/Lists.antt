-- Lists that grow at their end.
use Rattle.std.proofs.Common.{◌≡◌, ℕ, zero, suc, ◌+◌, List, [], ◌∷◌, ◌++◌, append_assoc, replicate, refl, ap, ◌∙◌, sym, arith}

at_end : (n kind : ℕ) → replicate n kind ++ kind ∷ [] ≡ replicate (n + 1) kind
at_end zero kind = refl
at_end (suc n) kind = let e : suc n + 1 ≡ suc (n + 1) = omega arith in rw e (ap (λ (xs : List ℕ). kind ∷ xs) (at_end n kind))

pub replicate_push : (n kind : ℕ) (front : List ℕ) → front ++ replicate (n + 1) kind ≡ (front ++ replicate n kind) ++ kind ∷ []
replicate_push n kind front = sym (append_assoc front (replicate n kind) (kind ∷ []) ∙ ap (λ (xs : List ℕ). front ++ xs) (at_end n kind))
