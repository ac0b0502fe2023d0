-- Lists of clauses, by their numbers.
use Rattle.std.proofs.Common.{◌≡◌, ℕ, ◌+◌, List, ◌∷◌, drop, ap, ◌∙◌, subst, Some, All}
use Rattle.std.specs.List.{slice_get}
use Rattle.std.proofs.lemmas.List.{drop_more}
use Rattle.std.proofs.lemmas.Option.{slice_get_within, get_or_from_slice_get}

-- what holds of each clause holds of the one with a number
pub holds_at : (P : List ℕ → Type 0) (clauses : List (List ℕ)) (number : ℕ) (clause : List ℕ) → All P clauses → slice_get clauses number ≡ Some clause → P clause
holds_at P clauses number clause a e = subst P (get_or_from_slice_get clauses number clause clause e) (a number clause (slice_get_within clauses number clause e))

-- a list from a place on
pub drop_at : (xs : List ℕ) (place x : ℕ) → slice_get xs place ≡ Some x → drop place xs ≡ x ∷ drop (place + 1) xs
drop_at xs place x e = drop_more xs place x (slice_get_within xs place x e) ∙ ap (λ (y : ℕ). y ∷ drop (place + 1) xs) (get_or_from_slice_get xs place x x e)
