-- What is taken in two parts.
use Rattle.std.proofs.Common.{◌≡◌, ◌≤◌, ℕ, ◌+◌, List, ◌++◌, Option, Some, None, take, drop, min, inl, inr, refl, ap, sym, ◌∙◌, append_assoc, length, ◌-◌, arith, length-drop}
use Rattle.std.proofs.lemmas.List.{take_all, take-append-drop, length-append, length-take-le}
use Rattle.std.proofs.lemmas.List.{drop-drop}
use Rattle.std.proofs.lemmas.Bool.{cases_lt}
use Rattle.std.proofs.Math.Nat.{min-eq_left, min-eq_right}
use Rattle.std.proofs.Math.ListN.{drop_of_length-le}
use Rattle.std.proofs.Math.Seq.{take-add, drop-length}
use Rattle.pl_io.specs.Outside.{appended, Took, TookWhole, TookFirst}

-- a front, and then a front of what is left
pub appended_front : (old : Option (List ℕ)) (xs : List ℕ) (i j : ℕ) → appended old (take (i + j) xs) ≡ appended (appended old (take i xs)) (take j (drop i xs))
appended_front None xs i j = refl
appended_front (Some before) xs i j = ap Some (ap (λ ys. before ++ ys) (take-add i j xs) ∙ sym (append_assoc before (take i xs) (take j (drop i xs))))

-- what `&xs[i..]` is
pub range_rest : (xs : List ℕ) (i : ℕ) → take (length xs - i) (drop i xs) ≡ drop i xs
range_rest xs i = take_all (length xs - i) (drop i xs) (omega (arith, length-drop i xs))

-- bytes were appended, and then more
pub Took-more : (old middle new bytes : List ℕ) → Took old middle → new ≡ middle ++ bytes → Took old new
Took-more old middle new bytes took more = (took.0 ++ bytes, more ∙ (ap (λ xs. xs ++ bytes) took.1 ∙ append_assoc old took.0 bytes))

-- a file that was taken whole has at most so many bytes
pub whole-fits : (most : ℕ) (old new file : List ℕ) → TookWhole most old new file → length new ≤ length old + most
whole-fits most old new file took = omega (arith, took.0, ap length took.1, length-append old file)

-- of a longer file so many bytes were taken
pub first-fills : (most : ℕ) (old new file : List ℕ) → TookFirst most old new file → length new ≡ length old + most
first-fills most old new file took = omega (arith, ap length took.1, length-append old (take most file), length-take-le most file (omega (arith, took.0)))

-- a part of what was read is kept, and counted off from what may still be kept
pub still-left : (before new chunk : List ℕ) (left kept total : ℕ) → new ≡ before ++ take kept chunk → kept ≤ length chunk → kept ≤ left → length before + left ≡ total → length new + (left - kept) ≡ total
still-left before new chunk left kept total more inside few is =
    omega (arith, ap length more, length-append before (take kept chunk), length-take-le kept chunk inside, few, is)

-- what is left of a file, from a place past its end too
left_from : (bytes : List ℕ) (at : ℕ) → drop at bytes ≡ drop (min at (length bytes)) bytes
left_from bytes at = elim (cases_lt at (length bytes)) [
  | inl within ↦ ap (λ (n : ℕ). drop n bytes) (sym (min-eq_left (omega (arith, within))))
  | inr past ↦ drop_of_length-le bytes past ∙ (sym (drop-length bytes) ∙ ap (λ (n : ℕ). drop n bytes) (sym (min-eq_right past)))
]

-- a piece that is taken, and what is left of the file after it
pub piece_taken : (bytes into : List ℕ) (at start count : ℕ) → start ≡ min at (length bytes) → take count into ≡ take count (drop start bytes)
    → drop at bytes ≡ take count into ++ drop (start + count) bytes
piece_taken bytes into at start count is copied =
    (left_from bytes at ∙ ap (λ (n : ℕ). drop n bytes) (sym is))
    ∙ (sym (take-append-drop count (drop start bytes))
    ∙ (ap (λ (xs : List ℕ). take count (drop start bytes) ++ xs) (drop-drop count start bytes)
    ∙ ap (λ (xs : List ℕ). xs ++ drop (start + count) bytes) (sym copied)))
