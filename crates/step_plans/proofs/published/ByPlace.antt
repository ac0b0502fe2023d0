-- Lists that are gone through place by place.
use Rattle.std.proofs.Common.{◌≡◌, ℕ, suc, ◌+◌, Bool, true, false, if◌then◌else◌, List, [], ◌∷◌, ◌++◌, drop, slice_get, Some, sym, ap, ◌∙◌, append_assoc, append-nil, add-one, drop-cons}
use Rattle.std.specs.List.{filter}
use Rattle.std.proofs.lemmas.Option.{get_or_from_slice_get, slice_get_within}

-- the rest of a list at a place
pub rest_at : {X : Type 0} (xs : List X) (i : ℕ) (x : X) → slice_get xs i ≡ Some x → drop i xs ≡ x ∷ drop (i + 1) xs
rest_at xs i x at =
    let lt = slice_get_within xs i x at in
    drop-cons xs i x lt ∙ ap (λ (y : _). y ∷ drop (suc i) xs) (get_or_from_slice_get xs i x x at) ∙ ap (λ (k : ℕ). x ∷ drop k xs) (sym (add-one i))

-- members of a set, one more place
pub members_next :
    (p : ℕ → Bool) (xs : List ℕ) (i x : ℕ) (before after : List ℕ) → slice_get xs i ≡ Some x → after ≡ before ++ filter p (x ∷ [])
    → before ++ filter p (drop i xs) ≡ after ++ filter p (drop (i + 1) xs)
members_next p xs i x before after at is =
    ap (λ (ys : List ℕ). before ++ filter p ys) (rest_at xs i x at) ∙ by (p x) ∙ ap (λ (ys : List ℕ). ys ++ filter p (drop (i + 1) xs)) (sym is)
  where
    by : (b : Bool) → before ++ (if b then x ∷ filter p (drop (i + 1) xs) else filter p (drop (i + 1) xs)) ≡ (before ++ (if b then x ∷ [] else [])) ++ filter p (drop (i + 1) xs)
    by true = sym (append_assoc before (x ∷ []) (filter p (drop (i + 1) xs)))
    by false = ap (λ (ys : List ℕ). ys ++ filter p (drop (i + 1) xs)) (sym (append-nil before))
