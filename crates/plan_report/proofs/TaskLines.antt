use Rattle.std.proofs.Common.{arith, ◌≡◌, ◌+◌, ◌≤◌, ℕ, List, ◌++◌, map, length, codes, decimal, drop, slice_get, Some, sym, ap, ◌∙◌}
use Rattle.std.proofs.lemmas.List.{append_assoc, drop_all, append-nil}
use Rattle.plan_report.specs.Listings.{numbered}
use Rattle.atom_join.proofs.published.Parts.{got_rest}

-- Numbered lines, one after the other.

abbrev pub front : ℕ → List ℕ
front n = codes "; " ++ (decimal n ++ codes " ")

one_line : (n : ℕ) (before text after : List ℕ) → before ++ (codes "; " ++ (decimal n ++ (codes " " ++ (text ++ (codes "\n" ++ after))))) ≡ (((before ++ front n) ++ text) ++ codes "\n") ++ after
one_line n before text after =
    sym (append_assoc ((before ++ front n) ++ text) (codes "\n") after
    ∙ append_assoc (before ++ front n) text (codes "\n" ++ after)
    ∙ append_assoc before (front n) (text ++ (codes "\n" ++ after))
    ∙ ap (λ (xs : List ℕ). before ++ xs) (append_assoc (codes "; ") (decimal n ++ codes " ") (text ++ (codes "\n" ++ after))
    ∙ ap (λ (xs : List ℕ). codes "; " ++ xs) (append_assoc (decimal n) (codes " ") (text ++ (codes "\n" ++ after)))))

pub line_next :
    {X : Type 0} (line : X → List ℕ) (xs : List X) (n : ℕ) (x : X) (before one two after : List ℕ)
    → slice_get xs n ≡ Some x → one ≡ before ++ front n → two ≡ one ++ line x → after ≡ two ++ codes "\n"
    → before ++ numbered n (map line (drop n xs)) ≡ after ++ numbered (n + 1) (map line (drop (n + 1) xs))
line_next line xs n x before one two after e o t a =
    ap (λ ys. before ++ numbered n (map line ys)) (got_rest xs n x e)
    ∙ one_line n before (line x) (numbered (n + 1) (map line (drop (n + 1) xs)))
    ∙ ap (λ (ys : List ℕ). ((ys ++ line x) ++ codes "\n") ++ numbered (n + 1) (map line (drop (n + 1) xs))) (sym o)
    ∙ ap (λ (ys : List ℕ). (ys ++ codes "\n") ++ numbered (n + 1) (map line (drop (n + 1) xs))) (sym t)
    ∙ ap (λ (ys : List ℕ). ys ++ numbered (n + 1) (map line (drop (n + 1) xs))) (sym a)

pub lines_done :
    {X : Type 0} (line : X → List ℕ) (xs : List X) (n count : ℕ) (before after : List ℕ) → count ≡ length xs → count ≤ n
    → before ++ numbered 0 (map line xs) ≡ after ++ numbered n (map line (drop n xs)) → after ≡ before ++ numbered 0 (map line xs)
lines_done line xs n count before after all le e =
    sym (append-nil after) ∙ ap (λ ys. after ++ numbered n (map line ys)) (sym (drop_all n xs (omega (arith, all, le)))) ∙ sym e
