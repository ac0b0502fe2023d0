-- The lines of clauses, one after another.
use Rattle.std.proofs.Common.{arith, ◌≡◌, ◌∙◌, ◌+◌, ℕ, zero, suc, List, [], ◌∷◌, ◌++◌, drop, Some, slice_get, refl, sym, ap, append_assoc}
use Rattle.sat_text.specs.Dimacs.{clause_line, clause_lines}

-- the lines from a clause on
from_clause : (clauses : List (List ℕ)) (k : ℕ) (clause : List ℕ) → slice_get clauses k ≡ Some clause → clause_lines (drop k clauses) ≡ clause_line clause ++ clause_lines (drop (k + 1) clauses)
from_clause [] k clause e = absurd (cc)
from_clause (c ∷ clauses) zero clause e = let s : c ≡ clause = cc in rw s refl
from_clause (c ∷ clauses) (suc k) clause e = let f : suc k + 1 ≡ suc (k + 1) = omega arith in rw f (from_clause clauses k clause e)

-- a text with the line of a clause more
pub one_clause : (clauses : List (List ℕ)) (k : ℕ) (clause old new : List ℕ) → slice_get clauses k ≡ Some clause → new ≡ old ++ clause_line clause
    → old ++ clause_lines (drop k clauses) ≡ new ++ clause_lines (drop (k + 1) clauses)
one_clause clauses k clause old new there is = ap (λ (t : List ℕ). old ++ t) (from_clause clauses k clause there) ∙ (sym (append_assoc old (clause_line clause) (clause_lines (drop (k + 1) clauses))) ∙ ap (λ (t : List ℕ). t ++ clause_lines (drop (k + 1) clauses)) (sym is))
