use Rattle.std.proofs.Common.{arith, ◌≡◌, ◌≢◌, ◌==◌, ℕ, zero, suc, ◌+◌, ◌-◌, ◌*◌, ◌/◌, ◌%◌, ◌<◌, ◌≤◌, List, [], ◌∷◌, ◌++◌, length, take, set, get_or}
use Rattle.std.proofs.Common.{leb, Bool, true, false, not, ◌||◌, ◌&&◌, if◌then◌else◌, refl, sym, ap, ◌∙◌, subst, ◌⊎◌, inl, inr, None}
use Rattle.std.proofs.Common.{length-append, get_or-set_same, get_or-set_other}
use Rattle.std.specs.List.{list_any, filter}
use Rattle.std.proofs.lemmas.Bool.Decides.{nat_tests}
use Rattle.std.proofs.lemmas.List.{take-append-le, take_all, get_or_past}
use Rattle.clause_base.specs.Literal.{opposite}
use Rattle.clause_base.specs.Clause.{has_literal}
use Rattle.bit_sets.specs.Layered.{IsLeast}
use Rattle.cdcl_tables.proofs.published.Assignments.{has-snoc}
use Rattle.cdcl_tables.specs.declared.chains.Node.{Node}
use Rattle.propagation.specs.Pending.{is_free, has_two_free, is_pending_on}
use Rattle.cdcl_defs.specs.Pending.{is_pending}
use Rattle.cdcl_defs.specs.State.{clause_at}
use Rattle.propagation.specs.own.Visit.{literal_at, IsReal, IsNodeKept, MovesToFree, Grows, AllSettled}
use Rattle.propagation.specs.own.Sound.{AreFree}
use Rattle.propagation.proofs.Filters.{count_two, count_weaker, any_weaker, two_of, tests_two, pending_at}

-- what a test tells, over plain variables
pub equal_of : (a b : ℕ) → (a == b) ≡ true → a ≡ b
equal_of a b h = grind (arith, nat_tests)

pub apart_of : (a b : ℕ) → (a == b) ≡ false → a ≡ b → ⊥
apart_of a b h e = let t : (a == b) ≡ true = grind (arith, nat_tests) in let z : true ≡ false = sym t ∙ h in cc

pub at_most_of : (a b : ℕ) → leb a b ≡ true → a ≤ b
at_most_of a b h = grind (arith, nat_tests)

pub past_of : (a b : ℕ) → leb a b ≡ false → b < a
past_of a b h = grind (arith, nat_tests)

pub tests_at_most : (a b : ℕ) → a ≤ b → leb a b ≡ true
tests_at_most a b h = grind (arith, nat_tests)

pub opposite_twice : (l : ℕ) → opposite (opposite l) ≡ l
opposite_twice l = by (l % 2 == 0) refl
  where
    at : (a : ℕ) → (b : Bool) → (a % 2 == 0) ≡ b → opposite a ≡ (if b then a + 1 else a - 1)
    at a b f = ap (λ (c : Bool). if c then a + 1 else a - 1) f

    by : (b : Bool) → (l % 2 == 0) ≡ b → opposite (opposite l) ≡ l
    by true f =
        let t : l % 2 ≡ 0 = grind (arith, nat_tests) in
        let o : opposite l ≡ l + 1 = at l true f in
        let u : (l + 1) % 2 ≢ 0 = omega (arith, t) in
        let g : ((l + 1) % 2 == 0) ≡ false = grind (arith, nat_tests) in
        let e : l + 1 - 1 ≡ l = omega arith in
        ap opposite o ∙ at (l + 1) false g ∙ e
    by false f =
        let t : l % 2 ≢ 0 = grind (arith, nat_tests) in
        let o : opposite l ≡ l - 1 = at l false f in
        let u : (l - 1) % 2 ≡ 0 = omega (arith, t) in
        let g : ((l - 1) % 2 == 0) ≡ true = grind (arith, nat_tests) in
        let e : l - 1 + 1 ≡ l = omega (arith, t) in
        ap opposite o ∙ at (l - 1) true g ∙ e

-- what is true stays true on a longer trail
pub true_longer : (trail : List ℕ) (x l : ℕ) → has_literal trail l ≡ true → has_literal (trail ++ x ∷ []) l ≡ true
true_longer trail x l h = has-snoc trail x l ∙ by (has_literal trail l) h
  where
    by : (b : Bool) → b ≡ true → (b || (x == l)) ≡ true
    by true e = refl
    by false e = absurd (let w : ⊥ = cc in w)

pub true_in_take : (n : ℕ) (xs : List ℕ) (l : ℕ) → has_literal (take n xs) l ≡ true → has_literal xs l ≡ true
true_in_take zero xs l h = absurd (let w : ⊥ = cc in w)
true_in_take (suc n) [] l h = absurd (let w : ⊥ = cc in w)
true_in_take (suc n) (y ∷ xs) l h = by (y == l) h (true_in_take n xs l)
  where
    by : (b : Bool) → (b || has_literal (take n xs) l) ≡ true → (has_literal (take n xs) l ≡ true → has_literal xs l ≡ true) → (b || has_literal xs l) ≡ true
    by true h k = refl
    by false h k = k h

not_weaker : (p q : Bool) → (p ≡ true → q ≡ true) → not q ≡ true → not p ≡ true
not_weaker false q h e = refl
not_weaker true q h e = let z : q ≡ true = h refl in let y : false ≡ true = ap (λ (b : Bool). not b) (sym z) ∙ e in absurd (let w : ⊥ = cc in w)

-- what is free stays so where less is true
pub free_weaker : (on on' : ℕ → Bool) → ((l : ℕ) → on l ≡ true → on' l ≡ true) → (l : ℕ) → is_free on' l ≡ true → is_free on l ≡ true
free_weaker on on' h l = not_weaker (on (opposite l)) (on' (opposite l)) (h (opposite l))

pub two_weaker : (on on' : ℕ → Bool) → ((l : ℕ) → on l ≡ true → on' l ≡ true) → (xs : List ℕ) → has_two_free on' xs ≡ true → has_two_free on xs ≡ true
two_weaker on on' h xs e =
    let k = count_weaker (is_free on') (is_free on) (free_weaker on on' h) xs in
    let t = two_of (length (filter (is_free on') xs)) e in
    tests_two (length (filter (is_free on) xs)) (omega (arith, k, t))

pub none_weaker : (on on' : ℕ → Bool) → ((l : ℕ) → on l ≡ true → on' l ≡ true) → (xs : List ℕ) → list_any on' xs ≡ false → list_any on xs ≡ false
none_weaker on on' h xs e = by (list_any on xs) refl
  where
    by : (b : Bool) → list_any on xs ≡ b → b ≡ false
    by true f = let z : true ≡ false = sym (any_weaker on on' h xs f) ∙ e in cc
    by false f = refl

-- a literal that was free is so after another became true
pub free_after : (trail : List ℕ) (x l : ℕ) → is_free (has_literal trail) l ≡ true → (l ≡ opposite x → ⊥) → is_free (has_literal (trail ++ x ∷ [])) l ≡ true
free_after trail x l f ne = ap (λ (b : Bool). not b) (has-snoc trail x (opposite l)) ∙ by (has_literal trail (opposite l)) f (x == opposite l) refl
  where
    by : (a : Bool) → not a ≡ true → (b : Bool) → (x == opposite l) ≡ b → not (a || b) ≡ true
    by true e b g = absurd (let w : ⊥ = cc in w)
    by false e true g = let t : x ≡ opposite l = grind (arith, nat_tests) in absurd (ne (sym (opposite_twice l) ∙ ap opposite (sym t)))
    by false e false g = refl

-- after a visit a watched literal of a clause that was loose is free, or is the one that became false
watch_after : (cl : List (List ℕ)) (nodes nodes' : List Node) (kept : List Bool) (trail : List ℕ) (x node : ℕ) → AreFree cl nodes kept trail
    → MovesToFree cl nodes nodes' (has_literal (trail ++ x ∷ [])) → IsReal cl node → IsNodeKept kept node
    → list_any (has_literal trail) (clause_at cl (node / 2)) ≡ false → has_two_free (has_literal trail) (clause_at cl (node / 2)) ≡ true
    → (literal_at nodes' node ≡ opposite x → ⊥) → is_free (has_literal (trail ++ x ∷ [])) (literal_at nodes' node) ≡ true
watch_after cl nodes nodes' kept trail x node free moves real m none two ne = by (moves node real)
  where
    by : (literal_at nodes' node ≡ literal_at nodes node) ⊎ (is_free (has_literal (trail ++ x ∷ [])) (literal_at nodes' node) ≡ true)
        → is_free (has_literal (trail ++ x ∷ [])) (literal_at nodes' node) ≡ true
    by (inl e) = free_after trail x (literal_at nodes' node) (ap (λ (l : ℕ). is_free (has_literal trail) l) e ∙ free node real m none two) ne
    by (inr f) = f

-- the watches stay right in each shorter trail, and are so in the longer one
pub assign_free : (cl : List (List ℕ)) (nodes nodes' : List Node) (kept : List Bool) (trail : List ℕ) (x : ℕ) (s : ℕ → Bool)
    → ((n : ℕ) → n ≤ length trail → AreFree cl nodes kept (take n trail)) → MovesToFree cl nodes nodes' (has_literal (trail ++ x ∷ []))
    → AllSettled cl nodes' (has_literal (trail ++ x ∷ [])) s (opposite x) kept → (n : ℕ) → n ≤ length (trail ++ x ∷ [])
    → AreFree cl nodes' kept (take n (trail ++ x ∷ []))
assign_free cl nodes nodes' kept trail x s free moves settled n h node real m = by (leb n (length trail)) refl
  where
    by : (b : Bool) → leb n (length trail) ≡ b → list_any (has_literal (take n (trail ++ x ∷ []))) (clause_at cl (node / 2)) ≡ false
        → has_two_free (has_literal (take n (trail ++ x ∷ []))) (clause_at cl (node / 2)) ≡ true
        → is_free (has_literal (take n (trail ++ x ∷ []))) (literal_at nodes' node) ≡ true
    by true f =
        let g : n ≤ length trail = at_most_of n (length trail) f in
        let Q : List ℕ → Type 0 = λ ys. list_any (has_literal ys) (clause_at cl (node / 2)) ≡ false → has_two_free (has_literal ys)
        (clause_at cl (node / 2)) ≡ true → is_free (has_literal ys) (literal_at nodes' node) ≡ true in
        subst Q (sym (take-append-le n trail (x ∷ []) g)) (short g (moves node real))
      where
        short : n ≤ length trail
            → (literal_at nodes' node ≡ literal_at nodes node) ⊎ (is_free (has_literal (trail ++ x ∷ [])) (literal_at nodes' node) ≡ true)
            → list_any (has_literal (take n trail)) (clause_at cl (node / 2)) ≡ false
            → has_two_free (has_literal (take n trail)) (clause_at cl (node / 2)) ≡ true
            → is_free (has_literal (take n trail)) (literal_at nodes' node) ≡ true
        short g (inl e) none two = ap (λ (l : ℕ). is_free (has_literal (take n trail)) l) e ∙ free n g node real m none two
        short g (inr e) none two = free_weaker (has_literal (take n trail)) (has_literal (trail ++ x ∷ [])) (λ l t. true_longer trail x l (true_in_take n trail l t)) (literal_at nodes' node) e
    by false f =
        let g : length trail < n = past_of n (length trail) f in
        let e : take n (trail ++ x ∷ []) ≡ trail ++ x ∷ [] = take_all n (trail ++ x ∷ []) (omega (arith, g, length-append trail (x ∷ []))) in
        let Q : List ℕ → Type 0 = λ ys. list_any (has_literal ys) (clause_at cl (node / 2)) ≡ false → has_two_free (has_literal ys)
        (clause_at cl (node / 2)) ≡ true → is_free (has_literal ys) (literal_at nodes' node) ≡ true in
        subst Q (sym e) long
      where
        whole : AreFree cl nodes kept trail
        whole = subst (λ (ys : List ℕ). AreFree cl nodes kept ys) (take_all (length trail) trail (omega arith)) (free (length trail) (omega arith))

        long : list_any (has_literal (trail ++ x ∷ [])) (clause_at cl (node / 2)) ≡ false
            → has_two_free (has_literal (trail ++ x ∷ [])) (clause_at cl (node / 2)) ≡ true
            → is_free (has_literal (trail ++ x ∷ [])) (literal_at nodes' node) ≡ true
        long none two =
            watch_after cl nodes nodes' kept trail x node whole moves real m
            (none_weaker (has_literal trail) (has_literal (trail ++ x ∷ [])) (true_longer trail x) (clause_at cl (node / 2)) none)
            (two_weaker (has_literal trail) (has_literal (trail ++ x ∷ [])) (true_longer trail x) (clause_at cl (node / 2)) two)
            (λ e. let t = settled node real m e in let z : true ≡ false = sym two ∙ t.not_loose none in let w : ⊥ = cc in w)

pub and_true : (a b : Bool) → (a && b) ≡ true → (a ≡ true) × (b ≡ true)
and_true true b h = (refl, h)
and_true false b h = absurd (let w : ⊥ = cc in w)

pub not_true : (a : Bool) → not a ≡ true → a ≡ false
not_true true h = absurd (let w : ⊥ = cc in w)
not_true false h = refl

pub not_false : (a : Bool) → not a ≡ false → a ≡ true
not_false true h = refl
not_false false h = absurd (let w : ⊥ = cc in w)

count_le : (p : ℕ → Bool) (xs : List ℕ) → length (filter p xs) ≤ length xs
count_le p [] = omega arith
count_le p (x ∷ xs) = by (p x) (count_le p xs)
  where
    by : (b : Bool) → length (filter p xs) ≤ length xs → length (if b then x ∷ filter p xs else filter p xs) ≤ suc (length xs)
    by true h = omega arith
    by false h = omega arith

-- what makes a clause pending by its number
pub pending_parts : (cl : List (List ℕ)) (kept : List Bool) (trail : List ℕ) (k : ℕ) → is_pending_on cl kept trail k ≡ true
    → (get_or kept k false ≡ true) × (list_any (has_literal trail) (clause_at cl k) ≡ false) × (has_two_free (has_literal trail) (clause_at cl k) ≡ false)
pending_parts cl kept trail k p =
    let xs = clause_at cl k in
    let a = and_true (get_or kept k false) (is_pending (has_literal trail) xs) (sym (pending_at cl kept trail k) ∙ p) in
    let b = and_true (not (list_any (has_literal trail) xs)) (leb (length (filter (is_free (has_literal trail)) xs)) 1) a.1 in
    (a.0, not_true (list_any (has_literal trail) xs) b.0, ap (λ (q : Bool). not q) b.1)

-- a clause that is pending on a longer trail was so before, unless two of its literals were not false
pub pending_earlier : (cl : List (List ℕ)) (kept : List Bool) (trail : List ℕ) (x k : ℕ) → is_pending_on cl kept (trail ++ x ∷ []) k ≡ true
    → has_two_free (has_literal trail) (clause_at cl k) ≡ false → is_pending_on cl kept trail k ≡ true
pending_earlier cl kept trail x k p f =
    let xs = clause_at cl k in
    let r = pending_parts cl kept (trail ++ x ∷ []) k p in
    let n = none_weaker (has_literal trail) (has_literal (trail ++ x ∷ [])) (true_longer trail x) xs r.1 in
    let g = not_false (leb (length (filter (is_free (has_literal trail)) xs)) 1) f in
    pending_at cl kept trail k ∙ (let e : (get_or kept k false && (not (list_any (has_literal trail) xs) && leb (length (filter (is_free (has_literal trail)) xs)) 1)) ≡ true = rw (r.0, n, g) in e)

-- the two literals that a clause watches stand at two of its places
pub record TwoWatched (xs : List ℕ) (a b : ℕ) : Type 0 where
  pub first : ℕ
  pub second : ℕ
  pub first_in : first < length xs
  pub second_in : second < length xs
  pub apart : first ≡ second → ⊥
  pub first_is : get_or xs first 0 ≡ a
  pub second_is : get_or xs second 0 ≡ b

abbrev pub AreTwoWatched : List (List ℕ) → List Node → Type 0
AreTwoWatched cl nodes = (c : ℕ) → c < length cl → 2 ≤ length (clause_at cl c) → TwoWatched (clause_at cl c) (literal_at nodes (2 * c)) (literal_at nodes (2 * c + 1))

-- every slot's clause that is pending on the longer trail is in the set
pub assign_complete : (cl : List (List ℕ)) (nodes nodes' : List Node) (kept : List Bool) (trail : List ℕ) (x : ℕ) (s s' : ℕ → Bool)
    → length kept ≡ length cl → AreTwoWatched cl nodes' → AreFree cl nodes kept trail → MovesToFree cl nodes nodes' (has_literal (trail ++ x ∷ []))
    → AllSettled cl nodes' (has_literal (trail ++ x ∷ [])) s' (opposite x) kept → Grows s s'
    → ((k : ℕ) → is_pending_on cl kept trail k ≡ true → s k ≡ true) → (k : ℕ) → is_pending_on cl kept (trail ++ x ∷ []) k ≡ true → s' k ≡ true
assign_complete cl nodes nodes' kept trail x s s' many two_watched free moves settled grows old k p =
    let r = pending_parts cl kept (trail ++ x ∷ []) k p in
    by (has_two_free on xs) refl r.0 (and_true (get_or kept k false) (is_pending on' xs) (sym (pending_at cl kept (trail ++ x ∷ []) k) ∙ p)).1 r.1 r.2
  where
    xs : List ℕ
    xs = clause_at cl k

    on : ℕ → Bool
    on = has_literal trail

    on' : ℕ → Bool
    on' = has_literal (trail ++ x ∷ [])

    in_range : (b : Bool) → get_or kept k false ≡ true → leb (length kept) k ≡ b → k < length cl
    in_range true f g = let z : true ≡ false = sym f ∙ get_or_past kept k false (at_most_of (length kept) k g) in absurd (let w : ⊥ = cc in w)
    in_range false f g = omega (arith, past_of (length kept) k g, many)

    by : (b : Bool) → has_two_free on xs ≡ b → get_or kept k false ≡ true → is_pending on' xs ≡ true → list_any on' xs ≡ false
        → has_two_free on' xs ≡ false → s' k ≡ true
    by false f kk q none two = grows k (old k (pending_earlier cl kept trail x k p f))
    by true f kk p none two =
        let t = two_of (length (filter (is_free on) xs)) f in
        let c = count_le (is_free on) xs in
        loose kk p none two (none_weaker on on' (true_longer trail x) xs none) f (omega (arith, t, c)) (in_range (leb (length kept) k) kk refl)
        (literal_at nodes' (2 * k) == opposite x) refl (literal_at nodes' (2 * k + 1) == opposite x) refl
      where
        half0 : 2 * k / 2 ≡ k
        half0 = omega arith

        half1 : (2 * k + 1) / 2 ≡ k
        half1 = omega arith

        real : (node : ℕ) → node / 2 ≡ k → 2 ≤ length (clause_at cl k) → k < length cl → IsReal cl node
        real node h t b = record { below = omega (arith, h, b); long = subst (λ (c : ℕ). 2 ≤ length (clause_at cl c)) (sym h) t }

        keep : (node : ℕ) → node / 2 ≡ k → get_or kept k false ≡ true → IsNodeKept kept node
        keep node h e = ap (λ (c : ℕ). get_or kept c false) h ∙ e

        here : (node : ℕ) → node / 2 ≡ k → 2 ≤ length (clause_at cl k) → k < length cl → get_or kept k false ≡ true
            → is_pending (has_literal (trail ++ x ∷ [])) (clause_at cl k) ≡ true → literal_at nodes' node ≡ opposite x → s' k ≡ true
        here node h t b kk p e =
            let r = settled node (real node h t b) (keep node h kk) e in
            ap s' (sym h) ∙ r.in_set (ap (λ (c : ℕ). is_pending (has_literal (trail ++ x ∷ [])) (clause_at cl c)) h ∙ p)

        opened : (node : ℕ) → node / 2 ≡ k → 2 ≤ length (clause_at cl k) → k < length cl → get_or kept k false ≡ true
            → list_any (has_literal trail) (clause_at cl k) ≡ false → has_two_free (has_literal trail) (clause_at cl k) ≡ true
            → (literal_at nodes' node ≡ opposite x → ⊥) → is_free (has_literal (trail ++ x ∷ [])) (literal_at nodes' node) ≡ true
        opened node h t b kk n f ne =
            watch_after cl nodes nodes' kept trail x node free moves (real node h t b) (keep node h kk)
            (ap (λ (c : ℕ). list_any (has_literal trail) (clause_at cl c)) h ∙ n)
            (ap (λ (c : ℕ). has_two_free (has_literal trail) (clause_at cl c)) h ∙ f) ne

        loose : get_or kept k false ≡ true → is_pending (has_literal (trail ++ x ∷ [])) (clause_at cl k) ≡ true
            → list_any (has_literal (trail ++ x ∷ [])) (clause_at cl k) ≡ false
            → has_two_free (has_literal (trail ++ x ∷ [])) (clause_at cl k) ≡ false → list_any (has_literal trail) (clause_at cl k) ≡ false
            → has_two_free (has_literal trail) (clause_at cl k) ≡ true → 2 ≤ length (clause_at cl k) → k < length cl → (p0 : Bool)
            → (literal_at nodes' (2 * k) == opposite x) ≡ p0 → (p1 : Bool) → (literal_at nodes' (2 * k + 1) == opposite x) ≡ p1 → s' k ≡ true
        loose kk p none two n f t b true e0 p1 e1 = here (2 * k) half0 t b kk p (equal_of (literal_at nodes' (2 * k)) (opposite x) e0)
        loose kk p none two n f t b false e0 true e1 = here (2 * k + 1) half1 t b kk p (equal_of (literal_at nodes' (2 * k + 1)) (opposite x) e1)
        loose kk p none two n f t b false e0 false e1 =
            let n0 = apart_of (literal_at nodes' (2 * k)) (opposite x) e0 in
            let n1 = apart_of (literal_at nodes' (2 * k + 1)) (opposite x) e1 in
            let o0 = opened (2 * k) half0 t b kk n f n0 in
            let o1 = opened (2 * k + 1) half1 t b kk n f n1 in
            let w = two_watched k b t in
            let c = count_two (is_free (has_literal (trail ++ x ∷ []))) (clause_at cl k) w.first w.second w.first_in w.second_in w.apart
            (ap (λ (l : ℕ). is_free (has_literal (trail ++ x ∷ [])) l) w.first_is ∙ o0) (ap (λ (l : ℕ). is_free (has_literal (trail ++ x ∷ [])) l) w.second_is ∙ o1) in
            let d : has_two_free (has_literal (trail ++ x ∷ [])) (clause_at cl k) ≡ true = tests_two (length (filter (is_free (has_literal (trail ++ x ∷ []))) (clause_at cl k))) c in
            let z : true ≡ false = sym d ∙ two in absurd (let w : ⊥ = cc in w)

pub whole_free : (cl : List (List ℕ)) (nodes : List Node) (kept : List Bool) (trail : List ℕ)
    → ((n : ℕ) → n ≤ length trail → AreFree cl nodes kept (take n trail)) → AreFree cl nodes kept trail
whole_free cl nodes kept trail free = subst (λ (ys : List ℕ). AreFree cl nodes kept ys) (take_all (length trail) trail (omega arith)) (free (length trail) (omega arith))

-- where the set has no least number nothing is pending
none_pending : (p s : ℕ → Bool) → ((k : ℕ) → p k ≡ true → s k ≡ true) → IsLeast s None → (k : ℕ) → p k ≡ false
none_pending p s complete none k = by (p k) refl
  where
    by : (b : Bool) → p k ≡ b → b ≡ false
    by true e = let z : true ≡ false = sym (complete k e) ∙ none k in cc
    by false e = refl

-- the quiet lengths of a longer trail
pub assign_quiets : (cl : List (List ℕ)) (kept : List Bool) (trail : List ℕ) (x : ℕ) (quiet : List Bool) (len : ℕ) (b : Bool) (s : ℕ → Bool)
    → len ≡ length trail → len < length quiet → (b ≡ true → IsLeast s None) → ((k : ℕ) → is_pending_on cl kept trail k ≡ true → s k ≡ true)
    → ((n : ℕ) → n < length trail → get_or quiet n false ≡ true → (k : ℕ) → is_pending_on cl kept (take n trail) k ≡ false) → (n : ℕ)
    → n < length (trail ++ x ∷ []) → get_or (set quiet len b) n false ≡ true → (k : ℕ) → is_pending_on cl kept (take n (trail ++ x ∷ [])) k ≡ false
assign_quiets cl kept trail x quiet len b s e inside least complete old n h q k = by (n == len) refl
  where
    by : (p : Bool) → (n == len) ≡ p → is_pending_on cl kept (take n (trail ++ x ∷ [])) k ≡ false
    by true f =
        let g : n ≡ len = equal_of n len f in
        let v : b ≡ true = sym (ap (λ (m : ℕ). get_or (set quiet len b) m false) g ∙ get_or-set_same quiet len b false inside) ∙ q in
        let t : take n (trail ++ x ∷ []) ≡ trail = take-append-le n trail (x ∷ []) (omega (arith, g, e)) ∙ take_all n trail (omega (arith, g, e)) in
        ap (λ (ys : List ℕ). is_pending_on cl kept ys k) t ∙ none_pending (is_pending_on cl kept trail) s complete (least v) k
    by false f =
        let g : n ≢ len = apart_of n len f in
        let nl : n < length trail = omega (arith, h, length-append trail (x ∷ []), g, e) in
        ap (λ (ys : List ℕ). is_pending_on cl kept ys k) (take-append-le n trail (x ∷ []) (omega (arith, nl))) ∙ old n nl (sym (get_or-set_other quiet len n b false g) ∙ q) k
