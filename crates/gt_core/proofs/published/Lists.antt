use Rattle.std.proofs.Common.{arith, ◌≡◌, ℕ, zero, suc, ◌+◌, ◌<◌, List, [], ◌∷◌, ◌++◌, length, subst, sym, inl, inr}
use Rattle.std.specs.Prelude.{slice_index_or}
use Rattle.std.specs.List.{AllByRecursion}
use Rattle.std.proofs.lemmas.List.{get_or_append_left, get_or_push}
use Rattle.std.proofs.lemmas.Bool.{cases_lt}

-- What holds of each element, by its place.

pub each_number : {A : Type 0} (P : A → Type 0) (xs : List A) (i : ℕ) (d : A) → AllByRecursion P xs → i < length xs → P (slice_index_or xs i d)
each_number P [] i d h lt = absurd (omega arith)
each_number P (x ∷ xs) zero d h lt = h.0
each_number P (x ∷ xs) (suc i) d h lt = each_number P xs i d h.1 (omega arith)

-- what holds of each list at its place, and of one more list at the end
pub pushed_each : (P : ℕ → List ℕ → Type 0) (lists : List (List ℕ)) (list : List ℕ) (i : ℕ) → length lists ≡ i → ((k : ℕ) → k < i → P k (slice_index_or lists k [])) → P i list
    → (k : ℕ) → k < i + 1 → P k (slice_index_or (lists ++ list ∷ []) k [])
pushed_each P lists list i long each one k lt = elim (cases_lt k i) [
  | inl below ↦ subst (P k) (sym (get_or_append_left lists (list ∷ []) [] k (omega arith))) (each k below)
  | inr le ↦
      let end : length lists ≡ k = omega arith in
      let same : i ≡ k = omega arith in
      subst (P k) (sym (get_or_push lists list [] k end)) (subst (λ (j : ℕ). P j list) same one)
]
