-- In a rising list a literal's negation can only be its neighbour.
use Rattle.std.proofs.Common.{arith, ◌≡◌, ◌==◌, ℕ, ◌+◌, ◌<◌, ◌≤◌, List, [], ◌∷◌, length, get_or, drop, Bool, true, false, ◌||◌, refl, sym, ap, ◌∙◌, subst, zero, suc}
use Rattle.std.specs.List.{list_any}
use Rattle.std.proofs.lemmas.List.{drop_more, drop_all}
use Rattle.std.proofs.lemmas.Bool.Decides.{nat_tests}
use Rattle.clause_base.specs.Literal.{opposite}
use Rattle.clause_base.specs.Clause.{IsRising, has_literal, has_opposite_pair}
use Rattle.clause_base.proofs.published.ClauseLemmas.{rising-tail, list_any-same}
use Rattle.clause_base.proofs.published.Rising.{head_absent}

or_regroup : (a b c d : Bool) → ((a || c) || (b || d)) ≡ ((a || b) || (c || d))
or_regroup true b c d = refl
or_regroup false true true d = refl
or_regroup false true false d = refl
or_regroup false false c d = refl

any-or : (p q : ℕ → Bool) (xs : List ℕ) → list_any (λ k. p k || q k) xs ≡ (list_any p xs || list_any q xs)
any-or p q [] = refl
any-or p q (x ∷ xs) = ap (λ c. (p x || q x) || c) (any-or p q xs) ∙ or_regroup (p x) (list_any p xs) (q x) (list_any q xs)

not_own : (l : ℕ) → (l == opposite l) ≡ false
not_own l = grind (arith, nat_tests)

opposite_swap : (l k : ℕ) → (l == opposite k) ≡ (k == opposite l)
opposite_swap l k = grind (arith, nat_tests)

opposite_le : (l m : ℕ) → l < m → opposite l ≤ m
opposite_le l m h = grind (arith, nat_tests)

or_once : (a b : Bool) → (a || (a || b)) ≡ (a || b)
or_once true b = refl
or_once false b = refl

-- a literal in front adds the pair of it with its negation
pair-cons : (l : ℕ) (xs : List ℕ) → has_opposite_pair (l ∷ xs) ≡ (has_literal xs (opposite l) || has_opposite_pair xs)
pair-cons l xs =
    let own : has_literal (l ∷ xs) (opposite l) ≡ has_literal xs (opposite l) = ap (λ c. c || has_literal xs (opposite l)) (not_own l) in
    let split = any-or (λ k. l == opposite k) (λ k. has_literal xs (opposite k)) xs in
    let turned = list_any-same (λ k. l == opposite k) (λ k. k == opposite l) (opposite_swap l) xs in
    ap (λ c. c || list_any (λ k. has_literal (l ∷ xs) (opposite k)) xs) own
    ∙ ap (λ c. has_literal xs (opposite l) || c) (split ∙ ap (λ c. c || has_opposite_pair xs) turned)
    ∙ or_once (has_literal xs (opposite l)) (has_opposite_pair xs)

or_off : (a b : Bool) → b ≡ false → (a || b) ≡ a
or_off true b e = refl
or_off false b e = e

-- and in a rising list only its neighbour can be that
pair-neighbours : (l m : ℕ) (xs : List ℕ) → IsRising (l ∷ m ∷ xs) → has_opposite_pair (l ∷ m ∷ xs) ≡ ((m == opposite l) || has_opposite_pair (m ∷ xs))
pair-neighbours l m xs r =
    let absent : has_literal xs (opposite l) ≡ false = head_absent m (opposite l) xs r.1 (opposite_le l m r.0) in
    pair-cons l (m ∷ xs) ∙ ap (λ c. c || has_opposite_pair (m ∷ xs)) (or_off (m == opposite l) (has_literal xs (opposite l)) absent)

rising-drop : (i : ℕ) (xs : List ℕ) → IsRising xs → IsRising (drop i xs)
rising-drop zero xs r = r
rising-drop (suc i) [] r = tt
rising-drop (suc i) (x ∷ xs) r = rising-drop i xs (rising-tail x xs r)

-- the pairs from place i on are the pair there and those from the next place on
pub pair-drop : (lits : List ℕ) (i l m : ℕ) → i + 1 < length lits → l ≡ get_or lits i l → m ≡ get_or lits (i + 1) m → IsRising lits → has_opposite_pair (drop i lits) ≡ ((m == opposite l) || has_opposite_pair (drop (i + 1) lits))
pair-drop lits i l m h e f r =
    let here : drop i lits ≡ l ∷ drop (i + 1) lits = drop_more lits i l (omega arith) ∙ ap (λ (k : ℕ). k ∷ drop (i + 1) lits) (sym e) in
    let next : drop (i + 1) lits ≡ m ∷ drop (i + 1 + 1) lits = drop_more lits (i + 1) m (omega arith) ∙ ap (λ (k : ℕ). k ∷ drop (i + 1 + 1) lits) (sym f) in
    let both : drop i lits ≡ l ∷ m ∷ drop (i + 1 + 1) lits = here ∙ ap (λ (xs : List ℕ). l ∷ xs) next in
    let rising : IsRising (l ∷ m ∷ drop (i + 1 + 1) lits) = subst IsRising both (rising-drop i lits r) in
    ap has_opposite_pair both ∙ pair-neighbours l m (drop (i + 1 + 1) lits) rising ∙ ap (λ (xs : List ℕ). (m == opposite l) || has_opposite_pair xs) (sym next)

-- a list of at most one literal has no pair
pub pair-last : (lits : List ℕ) (i : ℕ) → length lits ≤ i + 1 → has_opposite_pair (drop i lits) ≡ false
pair-last [] i h = ap has_opposite_pair (drop_all i [] (omega arith))
pair-last (l ∷ []) zero h = ap (λ c. (c || false) || false) (not_own l)
pair-last (l ∷ m ∷ lits) zero h = absurd (omega arith)
pair-last (l ∷ lits) (suc i) h = pair-last lits i (omega arith)
