-- One more part.
use Rattle.std.proofs.Common.{◌≡◌, ◌∙◌, ℕ, ◌+◌, List, [], ◌∷◌, ◌++◌, length, map, max, sym, ap, arith, append_assoc, append-nil}
use Rattle.std.proofs.lemmas.List.{map-append}
use Rattle.report_lines.specs.Lines.{joined}
use Rattle.plan_endings.specs.Ending.{greatest, problem_line, parts_text, status_of, text_of}
use Rattle.plan_endings.specs.declared.ending.Ending.{Ending}

greatest-push : (xs : List ℕ) (x : ℕ) → greatest (xs ++ x ∷ []) ≡ max (greatest xs) x
greatest-push [] x = omega arith
greatest-push (y ∷ ys) x = let rest = greatest-push ys x in omega (arith, rest)

-- the greatest status of one part more
pub one-status : (parts : List Ending) (part : Ending) → greatest (map status_of (parts ++ part ∷ [])) ≡ max (greatest (map status_of parts)) (status_of part)
one-status parts part = ap greatest (map-append status_of parts (part ∷ [])) ∙ greatest-push (map status_of parts) (status_of part)

-- the text of one part more
pub one-text : (number : ℕ) (parts : List Ending) (part : Ending)
    → parts_text number (parts ++ part ∷ []) ≡ parts_text number parts ++ (joined (problem_line (number + length parts) ∷ []) ++ text_of part)
one-text number [] part =
    let same : number + 0 ≡ number = omega arith in
    rw same (ap (λ (xs : List ℕ). joined (problem_line number ∷ []) ++ xs) (append-nil (text_of part)))
one-text number (p ∷ ps) part =
    let rest = one-text (number + 1) ps part in
    let same : number + 1 + length ps ≡ number + length (p ∷ ps) = omega arith in
    let moved = rw same at rest in
    ap (λ (xs : List ℕ). joined (problem_line number ∷ []) ++ (text_of p ++ xs)) moved
    ∙ ap (λ (xs : List ℕ). joined (problem_line number ∷ []) ++ xs) (sym (append_assoc (text_of p) (parts_text (number + 1) ps) (joined (problem_line (number + length (p ∷ ps)) ∷ []) ++ text_of part)))
    ∙ sym (append_assoc (joined (problem_line number ∷ [])) (text_of p ++ parts_text (number + 1) ps) (joined (problem_line (number + length (p ∷ ps)) ∷ []) ++ text_of part))
