-- The pairs of clauses whose literals are moved.
use Rattle.std.proofs.Common.{arith, ◌≡◌, ◌≢◌, ◌==◌, ℕ, suc, ◌+◌, ◌-◌, ◌*◌, ◌<◌, ◌≤◌, List, [], ◌∷◌, ◌++◌, length, map, ltb, Bool, true, false, if◌then◌else◌, All, refl, sym, ap, ◌∙◌}
use Rattle.std.proofs.lemmas.Bool.Decides.{nat_tests}
use Rattle.std.proofs.lemmas.List.{append_assoc, map-append}
use Rattle.std.proofs.lemmas.List.Elements.{All-head, All-tail}
use Rattle.clause_base.specs.declared.pair.Pair.{Pair}
use Rattle.cdcl_tables.specs.declared.list.Move.{Move}
use Rattle.clause_base.specs.Pairs.{pair_of, pairs_from}
use Rattle.clause_base.specs.Repeats.{moved_code}
use Rattle.cdcl_tables.specs.own.Moved.{moved_pair}
use Rattle.cdcl_tables.specs.own.Lists.{plain_move}
use Rattle.clause_base.proofs.published.PairCounts.{equal_of, apart_of, pair_first, pair_second, pair_neither}

pub test_false : (a b : ℕ) → a ≢ b → (a == b) ≡ false
test_false a b ne = grind (arith, nat_tests)

pub test_true : (a b : ℕ) → a ≡ b → (a == b) ≡ true
test_true a b e = grind (arith, nat_tests)

pub test_same : (a b c d : ℕ) → (a ≡ b → c ≡ d) → (c ≡ d → a ≡ b) → (a == b) ≡ (c == d)
test_same a b c d to from = by (c == d) refl
  where
    by : (t : Bool) → (c == d) ≡ t → (a == b) ≡ (c == d)
    by true e = test_true a b (from (equal_of c d e)) ∙ sym e
    by false e = test_false a b (λ (z : a ≡ b). apart_of c d e (to z)) ∙ sym e

-- the code of a moved literal
pub code_own : (w s f l : ℕ) → l < 2 * w → moved_code w s f l ≡ 2 * s + l
code_own w s f l h = let e : ltb l (2 * w) ≡ true = grind (arith, nat_tests) in ap (λ (t : Bool). if t then 2 * s + l else 2 * f + (l - 2 * w)) e

pub code_fact : (w s f l : ℕ) → 2 * w ≤ l → moved_code w s f l ≡ 2 * f + (l - 2 * w)
code_fact w s f l h = let e : ltb l (2 * w) ≡ false = grind (arith, nat_tests) in ap (λ (t : Bool). if t then 2 * s + l else 2 * f + (l - 2 * w)) e

abbrev pub move_of : Move → ℕ → ℕ
move_of m = moved_code m.width m.step m.facts

-- of the literals below a number the move takes just one to a literal, or none
abbrev pub IsFrom : Move → (codes x l : ℕ) → Type 0
IsFrom m codes x l = (a : ℕ) → a < codes → (move_of m a == x) ≡ (a == l)

abbrev pub IsFromNone : Move → (codes x : ℕ) → Type 0
IsFromNone m codes x = (a : ℕ) → a < codes → (move_of m a == x) ≡ false

pair_moved : (m : Move) (n k x l a b : ℕ) → k ≡ m.first + n → (move_of m a == x) ≡ (a == l) → (move_of m b == x) ≡ (b == l) → pair_of k x (move_of m a ∷ move_of m b ∷ []) ≡ map (moved_pair m) (pair_of n l (a ∷ b ∷ []))
pair_moved m n k x l a b e sa sb = by (a == l) refl (b == l) refl
  where
    by : (p : Bool) → (a == l) ≡ p → (q : Bool) → (b == l) ≡ q → pair_of k x (move_of m a ∷ move_of m b ∷ []) ≡ map (moved_pair m) (pair_of n l (a ∷ b ∷ []))
    by true ea q eb =
        pair_first k x (move_of m a) (move_of m b) (sa ∙ ea)
        ∙ ap (λ (i : ℕ). (record { other = move_of m b; number = i }) ∷ []) e
        ∙ sym (ap (λ (ps : List Pair). map (moved_pair m) ps) (pair_first n l a b ea))
    by false ea true eb =
        pair_second k x (move_of m a) (move_of m b) (sa ∙ ea) (sb ∙ eb)
        ∙ ap (λ (i : ℕ). (record { other = move_of m a; number = i }) ∷ []) e
        ∙ sym (ap (λ (ps : List Pair). map (moved_pair m) ps) (pair_second n l a b ea eb))
    by false ea false eb =
        pair_neither k x (move_of m a) (move_of m b) (sa ∙ ea) (sb ∙ eb)
        ∙ sym (ap (λ (ps : List Pair). map (moved_pair m) ps) (pair_neither n l a b ea eb))

clause_moved : (m : Move) (codes n k x l : ℕ) (c : List ℕ) → k ≡ m.first + n → IsFrom m codes x l → All (λ a. a < codes) c → pair_of k x (map (move_of m) c) ≡ map (moved_pair m) (pair_of n l c)
clause_moved m codes n k x l [] e s below = refl
clause_moved m codes n k x l (a ∷ []) e s below = refl
clause_moved m codes n k x l (a ∷ b ∷ []) e s below =
    pair_moved m n k x l a b e (s a (All-head (λ i. i < codes) a (b ∷ []) below)) (s b (All-head (λ i. i < codes) b [] (All-tail (λ i. i < codes) a (b ∷ []) below)))
clause_moved m codes n k x l (a ∷ b ∷ d ∷ c) e s below = refl

pub pairs_moved : (m : Move) (codes n k x l : ℕ) (cs : List (List ℕ)) → k ≡ m.first + n → IsFrom m codes x l → All (All (λ a. a < codes)) cs → pairs_from k x (map (map (move_of m)) cs) ≡ map (moved_pair m) (pairs_from n l cs)
pairs_moved m codes n k x l [] e s below = refl
pairs_moved m codes n k x l (c ∷ cs) e s below =
    ap (λ (ps : List Pair). ps ++ pairs_from (k + 1) x (map (map (move_of m)) cs)) (clause_moved m codes n k x l c e s (All-head (All (λ a. a < codes)) c cs below))
    ∙ ap (λ (ps : List Pair). map (moved_pair m) (pair_of n l c) ++ ps) (pairs_moved m codes (n + 1) (k + 1) x l cs (omega (arith, e)) s (All-tail (All (λ a. a < codes)) c cs below))
    ∙ sym (map-append (moved_pair m) (pair_of n l c) (pairs_from (n + 1) l cs))

clause_none : (m : Move) (codes k x : ℕ) (c : List ℕ) → IsFromNone m codes x → All (λ a. a < codes) c → pair_of k x (map (move_of m) c) ≡ []
clause_none m codes k x [] s below = refl
clause_none m codes k x (a ∷ []) s below = refl
clause_none m codes k x (a ∷ b ∷ []) s below =
    pair_neither k x (move_of m a) (move_of m b) (s a (All-head (λ i. i < codes) a (b ∷ []) below)) (s b (All-head (λ i. i < codes) b [] (All-tail (λ i. i < codes) a (b ∷ []) below)))
clause_none m codes k x (a ∷ b ∷ d ∷ c) s below = refl

pub pairs_none : (m : Move) (codes k x : ℕ) (cs : List (List ℕ)) → IsFromNone m codes x → All (All (λ a. a < codes)) cs → pairs_from k x (map (map (move_of m)) cs) ≡ []
pairs_none m codes k x [] s below = refl
pairs_none m codes k x (c ∷ cs) s below =
    ap (λ (ps : List Pair). ps ++ pairs_from (k + 1) x (map (map (move_of m)) cs)) (clause_none m codes k x c s (All-head (All (λ a. a < codes)) c cs below))
    ∙ pairs_none m codes (k + 1) x cs s (All-tail (All (λ a. a < codes)) c cs below)

-- clauses as they are, numbered from a first one on
pair_plain : (first n k x : ℕ) (c : List ℕ) → k ≡ first + n → pair_of k x c ≡ map (moved_pair (plain_move first)) (pair_of n x c)
pair_plain first n k x [] e = refl
pair_plain first n k x (a ∷ []) e = refl
pair_plain first n k x (a ∷ b ∷ []) e = by (a == x) refl (b == x) refl
  where
    same : (l : ℕ) → moved_code 0 0 0 l ≡ l
    same l = let h : 2 * 0 ≤ l = omega arith in omega (arith, code_fact 0 0 0 l h)

    by : (p : Bool) → (a == x) ≡ p → (q : Bool) → (b == x) ≡ q → pair_of k x (a ∷ b ∷ []) ≡ map (moved_pair (plain_move first)) (pair_of n x (a ∷ b ∷ []))
    by true ea q eb =
        pair_first k x a b ea
        ∙ ap (λ (i : ℕ). (record { other = b; number = i }) ∷ []) e
        ∙ ap (λ (o : ℕ). (record { other = o; number = first + n }) ∷ []) (sym (same b))
        ∙ sym (ap (λ (ps : List Pair). map (moved_pair (plain_move first)) ps) (pair_first n x a b ea))
    by false ea true eb =
        pair_second k x a b ea eb
        ∙ ap (λ (i : ℕ). (record { other = a; number = i }) ∷ []) e
        ∙ ap (λ (o : ℕ). (record { other = o; number = first + n }) ∷ []) (sym (same a))
        ∙ sym (ap (λ (ps : List Pair). map (moved_pair (plain_move first)) ps) (pair_second n x a b ea eb))
    by false ea false eb =
        pair_neither k x a b ea eb
        ∙ sym (ap (λ (ps : List Pair). map (moved_pair (plain_move first)) ps) (pair_neither n x a b ea eb))
pair_plain first n k x (a ∷ b ∷ d ∷ c) e = refl

pub pairs_plain : (first n k x : ℕ) (cs : List (List ℕ)) → k ≡ first + n → pairs_from k x cs ≡ map (moved_pair (plain_move first)) (pairs_from n x cs)
pairs_plain first n k x [] e = refl
pairs_plain first n k x (c ∷ cs) e =
    ap (λ (ps : List Pair). ps ++ pairs_from (k + 1) x cs) (pair_plain first n k x c e)
    ∙ ap (λ (ps : List Pair). map (moved_pair (plain_move first)) (pair_of n x c) ++ ps) (pairs_plain first (n + 1) (k + 1) x cs (omega (arith, e)))
    ∙ sym (map-append (moved_pair (plain_move first)) (pair_of n x c) (pairs_from (n + 1) x cs))

-- the pairs of clauses that stand after others
pub pairs_append : (n x : ℕ) (cs ds : List (List ℕ)) → pairs_from n x (cs ++ ds) ≡ pairs_from n x cs ++ pairs_from (n + length cs) x ds
pairs_append n x [] ds = let e : n ≡ n + 0 = omega arith in ap (λ (i : ℕ). pairs_from i x ds) e
pairs_append n x (c ∷ cs) ds =
    let e : n + 1 + length cs ≡ n + suc (length cs) = omega arith in
    ap (λ (ps : List Pair). pair_of n x c ++ ps) (pairs_append (n + 1) x cs ds ∙ ap (λ (i : ℕ). pairs_from (n + 1) x cs ++ pairs_from i x ds) e)
    ∙ sym (append_assoc (pair_of n x c) (pairs_from (n + 1) x cs) (pairs_from (n + suc (length cs)) x ds))
