-- The learned clauses that may be dropped, of those that are kept and long.
use Rattle.std.proofs.Common.{◌≡◌, ℕ, ◌-◌, ◌&&◌, List, [], ◌∷◌, ◌++◌, Bool, true, false, not, nat_lt, length, refl, sym, ap, ◌∙◌, filter, if◌then◌else◌, append_assoc}
use Rattle.std.specs.List.{range_with_len}
use Rattle.cdcl_defs.specs.declared.trail.Assigned.{Assigned}
use Rattle.cdcl_defs.specs.State.{clause_at, is_kept}
use Rattle.cdcl_defs.specs.Reduce.{has_forced, is_candidate, candidates}
use Rattle.conflict_analysis.specs.Longs.{is_long, long_ones}
use Rattle.conflict_analysis.proofs.published.Longs.{filter_both}

grouped : (a b c : Bool) → (a && (b && c)) ≡ ((a && b) && c)
grouped true b c = refl
grouped false b c = refl

-- those that forced no entry
pub free_ones : (given : ℕ) (clauses : List (List ℕ)) (kept : List Bool) (trail : List Assigned) → candidates given clauses kept trail ≡ filter (λ n. not (has_forced trail n)) (long_ones given clauses kept)
free_ones given clauses kept trail =
    sym (filter_both (is_long clauses kept) (λ n. not (has_forced trail n)) (is_candidate clauses kept trail)
    (λ k. grouped (is_kept kept k) (nat_lt 8 (length (clause_at clauses k))) (not (has_forced trail k)))
    (range_with_len given (length clauses - given)))

-- one that is taken, and one that is not
pub taken_one : (p : ℕ → Bool) (whole xs new ys rest : List ℕ) (k : ℕ) → whole ≡ xs ++ filter p ys → ys ≡ k ∷ rest → p k ≡ true → new ≡ xs ++ k ∷ [] → whole ≡ new ++ filter p rest
taken_one p whole xs new ys rest k e f g h =
    e ∙ ap (λ (ls : List ℕ). xs ++ filter p ls) f
    ∙ ap (λ (b : Bool). xs ++ (if b then k ∷ filter p rest else filter p rest)) g
    ∙ sym (append_assoc xs (k ∷ []) (filter p rest)) ∙ ap (λ (ls : List ℕ). ls ++ filter p rest) (sym h)

pub passed_one : (p : ℕ → Bool) (whole xs new ys rest : List ℕ) (k : ℕ) → whole ≡ xs ++ filter p ys → ys ≡ k ∷ rest → p k ≡ false → new ≡ xs → whole ≡ new ++ filter p rest
passed_one p whole xs new ys rest k e f g h =
    e ∙ ap (λ (ls : List ℕ). xs ++ filter p ls) f
    ∙ ap (λ (b : Bool). xs ++ (if b then k ∷ filter p rest else filter p rest)) g
    ∙ ap (λ (ls : List ℕ). ls ++ filter p rest) (sym h)
