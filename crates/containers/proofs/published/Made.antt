-- Results of calls that are all alike.
use Rattle.std.proofs.Common.{ℕ, suc, zero, ◌≡◌, List, [], ◌∷◌, length, refl, ap, subst}
use Rattle.std.specs.Prelude.{replicate, slice_index_or}
use Rattle.std.specs.List.{FoldsTo}

pub made_alike : {F X : Type 0} (step : F → X → F → Type 0) (item : X) → ((before : F) (made : X) (after : F) → step before made after → made ≡ item)
    → (first last : F) (xs : List X) → FoldsTo step first xs last → xs ≡ replicate (length xs) item
made_alike step item alike first last [] folds = refl
made_alike step item alike first last (x ∷ xs) folds =
    let head : x ≡ item = alike first x folds.0 folds.1 in
    let tail = made_alike step item alike folds.0 last xs folds.2 in
    subst (λ y. x ∷ xs ≡ y ∷ replicate (length xs) item) head (ap (λ ys. x ∷ ys) tail)

-- an item past the end counts as one of them too
pub get_or-replicate_default : {A : Type 0} (n : ℕ) (x : A) (k : ℕ) → slice_index_or (replicate n x) k x ≡ x
get_or-replicate_default zero x k = refl
get_or-replicate_default (suc n) x zero = refl
get_or-replicate_default (suc n) x (suc k) = get_or-replicate_default n x k
