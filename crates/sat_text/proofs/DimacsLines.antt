-- The lines of clauses, from one clause on.
use Rattle.std.proofs.Common.{◌≡◌, ℕ, ◌+◌, ◌<◌, Some, List, ◌∷◌, ◌++◌, drop, length, get_or, ap, sym, ◌∙◌, append_assoc, add-one, drop-cons, Bool, false, if◌then◌else◌}
use Rattle.std.specs.List.{slice_get}
use Rattle.std.proofs.lemmas.Option.{get_or_from_slice_get}
use Rattle.sat_text.specs.Dimacs.{clause_line, clause_lines}

-- with the line of the next clause appended, there is one less
pub lines_more : (cs : List (List ℕ)) (n : ℕ) (c text after : List ℕ) → n < length cs → slice_get cs n ≡ Some c → after ≡ text ++ clause_line c → text ++ clause_lines (drop n cs) ≡ after ++ clause_lines (drop (n + 1) cs)
lines_more cs n c text after h e t =
    let at : drop n cs ≡ get_or cs n c ∷ drop (n + 1) cs = rw (add-one, drop-cons cs n c) in
    let whole : clause_lines (drop n cs) ≡ clause_line c ++ clause_lines (drop (n + 1) cs) =
    ap clause_lines at ∙ ap (λ (x : List ℕ). clause_line x ++ clause_lines (drop (n + 1) cs)) (get_or_from_slice_get cs n c c e) in
    ap (λ (ys : List ℕ). text ++ ys) whole ∙ sym (append_assoc text (clause_line c) (clause_lines (drop (n + 1) cs)))
    ∙ ap (λ (ys : List ℕ). ys ++ clause_lines (drop (n + 1) cs)) (sym t)

-- the choice that is made where a test fails
pub else_is : (b : Bool) (xs ys : List ℕ) → b ≡ false → (if b then xs else ys) ≡ ys
else_is b xs ys e = ap (λ (x : Bool). if x then xs else ys) e
