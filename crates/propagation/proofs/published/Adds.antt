-- A new clause at the end: what holds of the tables once its watched literals are on their chains.
use Rattle.std.proofs.Common.{arith, ◌≡◌, ◌≢◌, ◌==◌, ℕ, suc, ◌+◌, ◌-◌, ◌*◌, ◌/◌, ◌%◌, ◌<◌, ◌≤◌, List, [], ◌∷◌, ◌++◌, length, take, get_or, ltb, leb}
use Rattle.std.proofs.Common.{Bool, true, false, ◌&&◌, refl, sym, ap, ◌∙◌, subst, if◌then◌else◌, Some}
use Rattle.std.specs.List.{list_any, filter}
use Rattle.std.proofs.lemmas.Bool.Decides.{nat_tests}
use Rattle.std.proofs.lemmas.List.{get_or_push, get_or_append_left, get_or_past, length_push}
use Rattle.clause_base.specs.Literal.{opposite}
use Rattle.clause_base.specs.Clause.{has_literal, IsClause, IsRising}
use Rattle.cdcl_tables.proofs.published.Mirrors.{half_opposite}
use Rattle.cdcl_tables.specs.declared.chains.Node.{Node}
use Rattle.cdcl_tables.specs.Linked.{IsLinked, blocking_of, placed}
use Rattle.propagation.specs.Pending.{is_free, has_two_free, is_pending_on}
use Rattle.cdcl_defs.specs.Pending.{is_pending}
use Rattle.cdcl_defs.specs.State.{clause_at}
use Rattle.propagation.specs.own.Visit.{literal_at, IsFit, IsReal, IsAtRest, IsNodeKept}
use Rattle.propagation.specs.own.Sound.{AreFree}
use Rattle.propagation.specs.own.Added.{Outlasts}
use Rattle.propagation.proofs.Filters.{clause_is, count_one, has_get, two_of, pending_at}
use Rattle.propagation.proofs.published.Assigns.{equal_of, apart_of, at_most_of, past_of}

-- a list with one more member, read elsewhere
pub get_other : {X : Type 0} (xs : List X) (y d : X) (i : ℕ) → (i ≡ length xs → ⊥) → get_or (xs ++ y ∷ []) i d ≡ get_or xs i d
get_other xs y d i ne = by (ltb i (length xs)) refl
  where
    by : (b : Bool) → ltb i (length xs) ≡ b → get_or (xs ++ y ∷ []) i d ≡ get_or xs i d
    by true e = let h : i < length xs = grind (arith, nat_tests) in get_or_append_left xs (y ∷ []) d i h
    by false e =
        let h : length xs ≤ i = grind (arith, nat_tests) in
        let n : i ≢ length xs = ne in
        let past : length (xs ++ y ∷ []) ≤ i = omega (arith, length_push xs y, h, n) in
        get_or_past (xs ++ y ∷ []) i d past ∙ sym (get_or_past xs i d h)

pub at_other : (cl : List (List ℕ)) (k : List ℕ) (c : ℕ) → (c ≡ length cl → ⊥) → clause_at (cl ++ k ∷ []) c ≡ clause_at cl c
at_other cl k c ne = clause_is (cl ++ k ∷ []) c ∙ get_other cl k [] c ne ∙ sym (clause_is cl c)

pub at_own : (cl : List (List ℕ)) (k : List ℕ) (c : ℕ) → c ≡ length cl → clause_at (cl ++ k ∷ []) c ≡ k
at_own cl k c e = clause_is (cl ++ k ∷ []) c ∙ get_or_push cl k [] c (sym e)

pub real_other : (cl : List (List ℕ)) (k : List ℕ) (node : ℕ) → IsReal (cl ++ k ∷ []) node → (node / 2 ≡ length cl → ⊥) → IsReal cl node
real_other cl k node r ne =
    let n : node / 2 ≢ length cl = ne in
    record {
      below = omega (arith, r.below, length_push cl k, n);
      long = subst (λ (xs : List ℕ). 2 ≤ length xs) (at_other cl k (node / 2) ne) r.long;
    }

pub real_more : (cl : List (List ℕ)) (k : List ℕ) (node : ℕ) → IsReal cl node → IsReal (cl ++ k ∷ []) node
real_more cl k node r =
    let ne : node / 2 ≡ length cl → ⊥ = (λ (e : node / 2 ≡ length cl). absurd (omega (arith, e, r.below))) in
    record {
      below = omega (arith, r.below, length_push cl k);
      long = subst (λ (xs : List ℕ). 2 ≤ length xs) (sym (at_other cl k (node / 2) ne)) r.long;
    }

pub real_own : (cl : List (List ℕ)) (k : List ℕ) (node : ℕ) → node / 2 ≡ length cl → 2 ≤ length k → IsReal (cl ++ k ∷ []) node
real_own cl k node e two = record {
  below = omega (arith, e, length_push cl k);
  long = subst (λ (xs : List ℕ). 2 ≤ length xs) (sym (at_own cl k (node / 2) e)) two;
}

own_long : (cl : List (List ℕ)) (k : List ℕ) (node : ℕ) → IsReal (cl ++ k ∷ []) node → node / 2 ≡ length cl → 2 ≤ length k
own_long cl k node r e = subst (λ (xs : List ℕ). 2 ≤ length xs) (at_own cl k (node / 2) e) r.long

-- the old nodes watch what they did
pub literal_other : (cl : List (List ℕ)) (nodes nodes' : List Node) (node : ℕ)
    → ((x : ℕ) → (x ≡ 2 * length cl → ⊥) → (x ≡ 2 * length cl + 1 → ⊥) → blocking_of nodes' x ≡ blocking_of nodes x) → (node / 2 ≡ length cl → ⊥)
    → literal_at nodes' node ≡ literal_at nodes node
literal_other cl nodes nodes' node others ne = others (opposite node) (λ e. ne (sym (half_opposite node) ∙ (let h : opposite node / 2 ≡ length cl = omega (arith, e) in h)))
    (λ e. ne (sym (half_opposite node) ∙ (let h : opposite node / 2 ≡ length cl = omega (arith, e) in h)))

-- and the new ones the chosen literals
pub literal_own : (nodes' : List Node) (n a b node : ℕ) (second : Bool) → node / 2 ≡ n → (node % 2 == 1) ≡ second → blocking_of nodes' (2 * n) ≡ b
    → blocking_of nodes' (2 * n + 1) ≡ a → literal_at nodes' node ≡ (if second then b else a)
literal_own nodes' n a b node true e s first other =
    let t : node % 2 ≡ 1 = grind (arith, nat_tests) in
    let f : node % 2 ≢ 0 = omega (arith, t) in
    let g : (node % 2 == 0) ≡ false = grind (arith, nat_tests) in
    let h : node - 1 ≡ 2 * n = omega (arith, e, t) in
    ap (λ (x : ℕ). blocking_of nodes' x) (ap (λ (q : Bool). if q then node + 1 else node - 1) g ∙ h) ∙ first
literal_own nodes' n a b node false e s first other =
    let t : node % 2 ≢ 1 = grind (arith, nat_tests) in
    let f : node % 2 ≡ 0 = omega (arith, t) in
    let g : (node % 2 == 0) ≡ true = grind (arith, nat_tests) in
    let h : node + 1 ≡ 2 * n + 1 = omega (arith, e, f) in
    ap (λ (x : ℕ). blocking_of nodes' x) (ap (λ (q : Bool). if q then node + 1 else node - 1) g ∙ h) ∙ other

kept_other : (cl : List (List ℕ)) (kept : List Bool) (node : ℕ) → length kept ≡ length cl → (node / 2 ≡ length cl → ⊥)
    → IsNodeKept (kept ++ true ∷ []) node → IsNodeKept kept node
kept_other cl kept node l ne m =
    let n : node / 2 ≡ length kept → ⊥ = (λ (e : node / 2 ≡ length kept). ne (e ∙ l)) in
    sym (get_other kept true false (node / 2) n) ∙ m

-- with the two nodes of the new clause on the chains of its watched literals
pub listed_add : (cl : List (List ℕ)) (k : List ℕ) (resume_at resume_at' heads heads' : List ℕ) (nodes nodes' : List Node) (spare : ℕ)
    (kept : List Bool) (p q a b : ℕ) (r : IsAtRest cl resume_at heads nodes spare kept)
    → length kept ≡ length cl → length cl < length resume_at' → p < length k → q < length k → (a ≡ b → ⊥) → 2 ≤ length k
    → a ≡ get_or k p 0 → b ≡ get_or k q 0
    → IsLinked heads' nodes' (placed (2 * length cl + 1) (Some b) (placed (2 * length cl) (Some a) r.on)) → length heads' ≡ length heads
    → 2 * (length cl + 1) ≤ length nodes' → blocking_of nodes' (2 * length cl) ≡ b → blocking_of nodes' (2 * length cl + 1) ≡ a
    → ((x : ℕ) → (x ≡ 2 * length cl → ⊥) → (x ≡ 2 * length cl + 1 → ⊥) → blocking_of nodes' x ≡ blocking_of nodes x)
    → IsAtRest (cl ++ k ∷ []) resume_at' heads' nodes' spare (kept ++ true ∷ [])
listed_add cl k resume_at resume_at' heads heads' nodes nodes' spare kept p q a b r lk lw fin sin ne two ae be link lh ln first second others = record {
  on = placed (2 * length cl + 1) (Some b) (placed (2 * length cl) (Some a) r.on);
  linked = link;
  long = omega (arith, lw, length_push cl k);
  codes = lh ∙ r.codes;
  many = omega (arith, ln, length_push cl k);
  real = λ x l e. real_by x l (x == 2 * length cl + 1) refl (x == 2 * length cl) refl e;
  there = λ x rx m. there_by x rx m (x == 2 * length cl + 1) refl (x == 2 * length cl) refl;
  blockings = λ x rx. notes_by x rx (x == 2 * length cl + 1) refl (x == 2 * length cl) refl;
  apart = λ x rx e. split_by x rx (x == 2 * length cl + 1) refl (x == 2 * length cl) refl e;
}
  where
    apart_from : (x : ℕ) → (x == 2 * length cl + 1) ≡ false → (x == 2 * length cl) ≡ false → x / 2 ≡ length cl → ⊥
    apart_from x f g e =
        let p : x ≢ 2 * length cl + 1 = apart_of x (2 * length cl + 1) f in
        let q : x ≢ 2 * length cl = apart_of x (2 * length cl) g in
        absurd (omega (arith, p, q, e))

    odd_half : (x : ℕ) → (x == 2 * length cl + 1) ≡ true → x / 2 ≡ length cl
    odd_half x f = let e : x ≡ 2 * length cl + 1 = equal_of x (2 * length cl + 1) f in omega (arith, e)

    odd : (x : ℕ) → (x == 2 * length cl + 1) ≡ true → (x % 2 == 1) ≡ true
    odd x f = let e : x ≡ 2 * length cl + 1 = equal_of x (2 * length cl + 1) f in let m : x % 2 ≡ 1 = omega (arith, e) in grind (arith, nat_tests)

    even_half : (x : ℕ) → (x == 2 * length cl) ≡ true → x / 2 ≡ length cl
    even_half x f = let e : x ≡ 2 * length cl = equal_of x (2 * length cl) f in omega (arith, e)

    even : (x : ℕ) → (x == 2 * length cl) ≡ true → (x % 2 == 1) ≡ false
    even x f = let e : x ≡ 2 * length cl = equal_of x (2 * length cl) f in let m : x % 2 ≢ 1 = omega (arith, e) in grind (arith, nat_tests)

    own : (x : ℕ) (s : Bool) → x / 2 ≡ length cl → (x % 2 == 1) ≡ s → literal_at nodes' x ≡ (if s then b else a)
    own x s h g = literal_own nodes' (length cl) a b x s h g first second

    at_odd : (x : ℕ) → (x == 2 * length cl + 1) ≡ true → blocking_of nodes' x ≡ a
    at_odd x f = ap (λ (y : ℕ). blocking_of nodes' y) (equal_of x (2 * length cl + 1) f) ∙ second

    at_even : (x : ℕ) → (x == 2 * length cl) ≡ true → blocking_of nodes' x ≡ b
    at_even x f = ap (λ (y : ℕ). blocking_of nodes' y) (equal_of x (2 * length cl) f) ∙ first

    split_by : (x : ℕ) → IsReal (cl ++ k ∷ []) x → (u : Bool) → (x == 2 * length cl + 1) ≡ u → (v : Bool) → (x == 2 * length cl) ≡ v
        → blocking_of nodes' x ≡ blocking_of nodes' (opposite x) → ⊥
    split_by x rx true f v g e = ne (sym (at_odd x f) ∙ e ∙ own x true (odd_half x f) (odd x f))
    split_by x rx false f true g e = ne (sym (own x false (even_half x g) (even x g)) ∙ sym e ∙ at_even x g)
    split_by x rx false f false g e =
        r.apart x (real_other cl k x rx (apart_from x f g))
        (sym (others x (apart_of x (2 * length cl) g) (apart_of x (2 * length cl + 1) f)) ∙ e ∙ literal_other cl nodes nodes' x others (apart_from x f g))

    real_by : (x l : ℕ) (p : Bool) → (x == 2 * length cl + 1) ≡ p → (q : Bool) → (x == 2 * length cl) ≡ q
        → (if p then Some b else if q then Some a else r.on x) ≡ Some l → IsReal (cl ++ k ∷ []) x
    real_by x l true f q g e = real_own cl k x (odd_half x f) two
    real_by x l false f true g e = real_own cl k x (even_half x g) two
    real_by x l false f false g e = real_more cl k x (r.real x l e)

    there_by : (x : ℕ) → IsReal (cl ++ k ∷ []) x → IsNodeKept (kept ++ true ∷ []) x → (p : Bool) → (x == 2 * length cl + 1) ≡ p → (q : Bool)
        → (x == 2 * length cl) ≡ q
        → (if p then Some b else if q then Some a else r.on x) ≡ Some (literal_at nodes' x)
    there_by x rx m true f q g = ap (λ (y : ℕ). Some y) (sym (own x true (odd_half x f) (odd x f)))
    there_by x rx m false f true g = ap (λ (y : ℕ). Some y) (sym (own x false (even_half x g) (even x g)))
    there_by x rx m false f false g =
        r.there x (real_other cl k x rx (apart_from x f g)) (kept_other cl kept x lk (apart_from x f g) m)
        ∙ ap (λ (y : ℕ). Some y) (sym (literal_other cl nodes nodes' x others (apart_from x f g)))

    notes_by : (x : ℕ) → IsReal (cl ++ k ∷ []) x → (p : Bool) → (x == 2 * length cl + 1) ≡ p → (q : Bool) → (x == 2 * length cl) ≡ q
        → has_literal (clause_at (cl ++ k ∷ []) (x / 2)) (blocking_of nodes' x) ≡ true
    notes_by x rx true f q g =
        ap (λ (xs : List ℕ). has_literal xs (blocking_of nodes' x)) (at_own cl k (x / 2) (odd_half x f))
        ∙ ap (λ (y : ℕ). has_literal k y) (at_odd x f ∙ ae)
        ∙ has_get k p fin
    notes_by x rx false f true g =
        ap (λ (xs : List ℕ). has_literal xs (blocking_of nodes' x)) (at_own cl k (x / 2) (even_half x g))
        ∙ ap (λ (y : ℕ). has_literal k y) (at_even x g ∙ be)
        ∙ has_get k q sin
    notes_by x rx false f false g =
        ap (λ (xs : List ℕ). has_literal xs (blocking_of nodes' x)) (at_other cl k (x / 2) (apart_from x f g))
        ∙ ap (λ (y : ℕ). has_literal (clause_at cl (x / 2)) y) (others x (apart_of x (2 * length cl) g) (apart_of x (2 * length cl + 1) f))
        ∙ r.blockings x (real_other cl k x rx (apart_from x f g))

-- the old clauses are as pending as they were
pub pending_other : (cl : List (List ℕ)) (k : List ℕ) (kept : List Bool) (trail : List ℕ) (c : ℕ) → length kept ≡ length cl → (c ≡ length cl → ⊥)
    → is_pending_on (cl ++ k ∷ []) (kept ++ true ∷ []) trail c ≡ is_pending_on cl kept trail c
pending_other cl k kept trail c l ne =
    pending_at (cl ++ k ∷ []) (kept ++ true ∷ []) trail c
    ∙ ap (λ (b : Bool). b && is_pending (has_literal trail) (clause_at (cl ++ k ∷ []) c)) (get_other kept true false c (λ (e : c ≡ length kept). ne (e ∙ l)))
    ∙ ap (λ (xs : List ℕ). get_or kept c false && is_pending (has_literal trail) xs) (at_other cl k c ne)
    ∙ sym (pending_at cl kept trail c)

off_and : (a b : Bool) → b ≡ false → (a && b) ≡ false
off_and true b e = e
off_and false b e = refl

-- the new one is not where its literals are not
pub pending_own : (cl : List (List ℕ)) (k : List ℕ) (kept : List Bool) (trail : List ℕ) (c : ℕ) → c ≡ length cl
    → is_pending (has_literal trail) k ≡ false → is_pending_on (cl ++ k ∷ []) (kept ++ true ∷ []) trail c ≡ false
pending_own cl k kept trail c e h = pending_at (cl ++ k ∷ []) (kept ++ true ∷ []) trail c ∙ off_and (get_or (kept ++ true ∷ []) c false) _
    (ap (λ (xs : List ℕ). is_pending (has_literal trail) xs) (at_own cl k c e) ∙ h)

off_by : (a b : Bool) → (a ≡ true → b ≡ true) → b ≡ false → a ≡ false
off_by true b h e = let t : b ≡ true = h refl in sym t ∙ e
off_by false b h e = refl

-- the two literals that are not false for longest are both not false wherever two are
pub own_free : (trail k : List ℕ) (m first second : ℕ) → second < length k → (second ≡ first → ⊥)
    → ((p : ℕ) → p < length k → Outlasts trail (get_or k first 0) (get_or k p 0))
    → ((p : ℕ) → p < length k → (p ≡ first → ⊥) → Outlasts trail (get_or k second 0) (get_or k p 0)) → m ≤ length trail
    → has_two_free (has_literal (take m trail)) k ≡ true
    → (is_free (has_literal (take m trail)) (get_or k first 0) ≡ true) × (is_free (has_literal (take m trail)) (get_or k second 0) ≡ true)
own_free trail k m first second sin ne most next h two = by (is_free (has_literal (take m trail)) (get_or k second 0)) refl
  where
    by : (b : Bool) → is_free (has_literal (take m trail)) (get_or k second 0) ≡ b
        → (is_free (has_literal (take m trail)) (get_or k first 0) ≡ true) × (is_free (has_literal (take m trail)) (get_or k second 0) ≡ true)
    by true e = (most second sin m h e, e)
    by false e =
        let one = count_one (is_free (has_literal (take m trail))) k first
        (λ i g a. off_by (is_free (has_literal (take m trail)) (get_or k i 0)) (is_free (has_literal (take m trail)) (get_or k second 0))
        (next i g a m h) e) in
        let t = two_of (length (filter (is_free (has_literal (take m trail))) k)) two in
        absurd (omega (arith, one, t))

-- so the watches are right in a prefix of the trail with the new clause too
pub free_add : (cl : List (List ℕ)) (k : List ℕ) (nodes nodes' : List Node) (kept : List Bool) (trail : List ℕ) → length kept ≡ length cl
    → ((node : ℕ) → (node / 2 ≡ length cl → ⊥) → literal_at nodes' node ≡ literal_at nodes node) → AreFree cl nodes kept trail
    → ((node : ℕ) → node / 2 ≡ length cl → 2 ≤ length k → has_two_free (has_literal trail) k ≡ true → is_free (has_literal trail) (literal_at nodes' node) ≡ true)
    → AreFree (cl ++ k ∷ []) nodes' (kept ++ true ∷ []) trail
free_add cl k nodes nodes' kept trail lk same free own node rx m none two = by (node / 2 == length cl) refl
  where
    by : (b : Bool) → (node / 2 == length cl) ≡ b → is_free (has_literal trail) (literal_at nodes' node) ≡ true
    by true f =
        let e : node / 2 ≡ length cl = equal_of (node / 2) (length cl) f in
        own node e (own_long cl k node rx e) (ap (λ (xs : List ℕ). has_two_free (has_literal trail) xs) (sym (at_own cl k (node / 2) e)) ∙ two)
    by false f =
        let ne : node / 2 ≡ length cl → ⊥ = apart_of (node / 2) (length cl) f in
        let at = at_other cl k (node / 2) ne in
        ap (λ (l : ℕ). is_free (has_literal trail) l) (same node ne)
        ∙ free node (real_other cl k node rx ne) (kept_other cl kept node lk ne m)
        (ap (λ (xs : List ℕ). list_any (has_literal trail) xs) (sym at) ∙ none) (ap (λ (xs : List ℕ). has_two_free (has_literal trail) xs) (sym at) ∙ two)

-- the quiet lengths, where those at which the new clause is pending are so no more
pub quiets_add : (cl : List (List ℕ)) (k : List ℕ) (kept : List Bool) (trail : List ℕ) (quiet quiet' : List Bool) → length kept ≡ length cl
    → ((n : ℕ) → n < length trail → get_or quiet n false ≡ true → (c : ℕ) → is_pending_on cl kept (take n trail) c ≡ false)
    → ((n : ℕ) → n < length trail → get_or quiet' n false ≡ true → (get_or quiet n false ≡ true) × (is_pending (has_literal (take n trail)) k ≡ false))
    → (n : ℕ) → n < length trail → get_or quiet' n false ≡ true → (c : ℕ) → is_pending_on (cl ++ k ∷ []) (kept ++ true ∷ []) (take n trail) c ≡ false
quiets_add cl k kept trail quiet quiet' lk old now n h q c = by (c == length cl) refl (now n h q)
  where
    by : (b : Bool) → (c == length cl) ≡ b → (get_or quiet n false ≡ true) × (is_pending (has_literal (take n trail)) k ≡ false)
        → is_pending_on (cl ++ k ∷ []) (kept ++ true ∷ []) (take n trail) c ≡ false
    by true f w = pending_own cl k kept (take n trail) c (equal_of c (length cl) f) w.1
    by false f w = pending_other cl k kept (take n trail) c lk (apart_of c (length cl) f) ∙ old n h w.0 c

-- a rising list of numbers below a bound is no longer than the bound
pub rising_short : (x : ℕ) (xs : List ℕ) (n : ℕ) → IsRising (x ∷ xs) → ((p : ℕ) → p < length (x ∷ xs) → get_or (x ∷ xs) p 0 < n) → x + length (x ∷ xs) ≤ n
rising_short x [] n r h = let a : x < n = h 0 (omega arith) in omega (arith, a)
rising_short x (y ∷ xs) n r h =
    let rest = rising_short y xs n r.1 (λ p g. h (suc p) (omega (arith, g))) in
    omega (arith, rest, r.0)

pub fit_add : (cl : List (List ℕ)) (k : List ℕ) (codes : ℕ) → IsFit cl codes → ((p : ℕ) → p < length k → get_or k p 0 < codes) → length k ≤ 4294967295
    → IsClause k → IsFit (cl ++ k ∷ []) codes
fit_add cl k codes f below short lawful = record {
  below = λ c p h. below_by c p h (c == length cl) refl;
  short = λ c. short_by c (c == length cl) refl;
  lawful = λ c. lawful_by c (c == length cl) refl;
}
  where
    below_by : (c p : ℕ) → p < length (clause_at (cl ++ k ∷ []) c) → (b : Bool) → (c == length cl) ≡ b → get_or (clause_at (cl ++ k ∷ []) c) p 0 < codes
    below_by c p h true g =
        let at = at_own cl k c (equal_of c (length cl) g) in
        let l = ap (λ (xs : List ℕ). length xs) at in
        let v = ap (λ (xs : List ℕ). get_or xs p 0) at in
        let b = below p (omega (arith, h, l)) in omega (arith, v, b)
    below_by c p h false g =
        let at = at_other cl k c (apart_of c (length cl) g) in
        let l = ap (λ (xs : List ℕ). length xs) at in
        let v = ap (λ (xs : List ℕ). get_or xs p 0) at in
        let b = f.below c p (omega (arith, h, l)) in omega (arith, v, b)

    short_by : (c : ℕ) (b : Bool) → (c == length cl) ≡ b → length (clause_at (cl ++ k ∷ []) c) ≤ 4294967295
    short_by c true g = let l = ap (λ (xs : List ℕ). length xs) (at_own cl k c (equal_of c (length cl) g)) in omega (arith, l, short)
    short_by c false g = let l = ap (λ (xs : List ℕ). length xs) (at_other cl k c (apart_of c (length cl) g)) in omega (arith, l, f.short c)

    lawful_by : (c : ℕ) (b : Bool) → (c == length cl) ≡ b → IsClause (clause_at (cl ++ k ∷ []) c)
    lawful_by c true g = subst IsClause (sym (at_own cl k c (equal_of c (length cl) g))) lawful
    lawful_by c false g = subst IsClause (sym (at_other cl k c (apart_of c (length cl) g))) (f.lawful c)

-- a kept clause has a flag
pub kept_in : (kept : List Bool) (k : ℕ) (b : Bool) → (get_or kept k false && b) ≡ true → k < length kept
kept_in kept k b p = by (leb (length kept) k) refl
  where
    by : (q : Bool) → leb (length kept) k ≡ q → k < length kept
    by true e =
        let z : (false && b) ≡ true = subst (λ (f : Bool). (f && b) ≡ true) (get_or_past kept k false (at_most_of (length kept) k e)) p in
        absurd (let w : ⊥ = cc in w)
    by false e = past_of (length kept) k e
