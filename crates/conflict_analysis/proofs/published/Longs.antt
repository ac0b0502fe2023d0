-- The learned clauses that are kept and long, where one more is learned and where some are dropped.
use Rattle.std.proofs.Common.{arith, ◌≡◌, ◌==◌, ℕ, zero, suc, ◌+◌, ◌-◌, ◌<◌, ◌≤◌, List, [], ◌∷◌, ◌++◌, length, get_or, Bool, true, false, not, ◌&&◌, nat_lt, if◌then◌else◌, refl, sym, ap, ◌∙◌, filter, length-append}
use Rattle.std.specs.List.{list_any, range_with_len}
use Rattle.std.proofs.Math.Bool.{and_comm}
use Rattle.std.proofs.lemmas.List.{append-nil, get_or_append_left, get_or_push, length_push}
use Rattle.std.proofs.lemmas.List.Elements.{filter-append}
use Rattle.cdcl_defs.specs.State.{clause_at, is_kept}
use Rattle.cdcl_defs.specs.Reduce.{kept_without}
use Rattle.conflict_analysis.specs.Longs.{is_long, long_ones}
use Rattle.conflict_analysis.proofs.published.Placed.{clause_old, clause_new}
use Rattle.conflict_analysis.proofs.Kept.{without}

-- two tests that agree on the numbers from one on
same_on : (p q : ℕ → Bool) (a n : ℕ) → ((k : ℕ) → a ≤ k → k < a + n → p k ≡ q k) → filter p (range_with_len a n) ≡ filter q (range_with_len a n)
same_on p q a zero h = refl
same_on p q a (suc n) h =
    ap (λ (b : Bool). if b then a ∷ filter p (range_with_len (a + 1) n) else filter p (range_with_len (a + 1) n)) (h a (omega arith) (omega arith))
    ∙ ap (λ (xs : List ℕ). if q a then a ∷ xs else xs) (same_on p q (a + 1) n (λ k l m. h k (omega (arith, l)) (omega (arith, m))))

-- one number more
range_more : (a n : ℕ) → range_with_len a (suc n) ≡ range_with_len a n ++ (a + n) ∷ []
range_more a zero = let e : a ≡ a + 0 = omega arith in ap (λ (k : ℕ). k ∷ []) e
range_more a (suc n) =
    let e : a + 1 + n ≡ a + suc n = omega arith in
    ap (λ (xs : List ℕ). a ∷ xs) (range_more (a + 1) n ∙ ap (λ (k : ℕ). range_with_len (a + 1) n ++ k ∷ []) e)

taken : (xs : List ℕ) (k : ℕ) (b : Bool) → xs ++ (if b then k ∷ [] else []) ≡ (if b then xs ++ k ∷ [] else xs)
taken xs k true = refl
taken xs k false = append-nil xs

-- none is learned
pub long_none : (given : ℕ) (clauses : List (List ℕ)) (kept : List Bool) → given ≡ length clauses → long_ones given (clauses ++ []) kept ≡ []
long_none given clauses kept e =
    let none : length (clauses ++ []) - given ≡ 0 = omega (arith, length-append clauses [], e) in
    ap (λ (n : ℕ). filter (is_long (clauses ++ []) kept) (range_with_len given n)) none

-- a further clause is learned
pub long_learn : (given : ℕ) (clauses : List (List ℕ)) (kept : List Bool) (c : List ℕ) → given ≤ length clauses → length kept ≡ length clauses → long_ones given (clauses ++ c ∷ []) (kept ++ true ∷ []) ≡ (if nat_lt 8 (length c) then long_ones given clauses kept ++ length clauses ∷ [] else long_ones given clauses kept)
long_learn given clauses kept c l e =
    let n = length clauses - given in
    let p = is_long (clauses ++ c ∷ []) (kept ++ true ∷ []) in
    let more : length (clauses ++ c ∷ []) - given ≡ suc n = omega (arith, l, length_push clauses c) in
    let whole : given + n ≡ length clauses = omega (arith, l) in
    let zero_left : length clauses - length clauses ≡ 0 = omega arith in
    let own : clause_at (clauses ++ c ∷ []) (length clauses) ≡ c = clause_new clauses (c ∷ []) (length clauses) (omega arith) ∙ ap (clause_at (c ∷ [])) zero_left in
    let last : p (length clauses) ≡ nat_lt 8 (length c) =
    ap (λ (b : Bool). b && nat_lt 8 (length (clause_at (clauses ++ c ∷ []) (length clauses)))) (get_or_push kept true false (length clauses) e)
    ∙ ap (λ (k : List ℕ). nat_lt 8 (length k)) own in
    let old : filter p (range_with_len given n) ≡ long_ones given clauses kept =
    same_on p (is_long clauses kept) given n (λ k a b. ap (λ (f : Bool). f && nat_lt 8 (length (clause_at (clauses ++ c ∷ []) k))) (get_or_append_left kept (true ∷ []) false k (omega (arith, b, whole, e)))
    ∙ ap (λ (x : List ℕ). is_kept kept k && nat_lt 8 (length x)) (clause_old clauses (c ∷ []) k (omega (arith, b, whole)))) in
    ap (λ (m : ℕ). filter p (range_with_len given m)) more
    ∙ ap (λ (xs : List ℕ). filter p xs) (range_more given n)
    ∙ filter-append p (range_with_len given n) ((given + n) ∷ [])
    ∙ ap (λ (k : ℕ). filter p (range_with_len given n) ++ filter p (k ∷ [])) whole
    ∙ ap (λ (xs : List ℕ). xs ++ filter p (length clauses ∷ [])) old
    ∙ ap (λ (b : Bool). long_ones given clauses kept ++ (if b then length clauses ∷ [] else [])) last
    ∙ taken (long_ones given clauses kept) (length clauses) (nat_lt 8 (length c))

-- of the numbers that pass one test those that pass another
filter_step : (q : ℕ → Bool) (x : ℕ) (ys : List ℕ) (a : Bool) → filter q (if a then x ∷ ys else ys) ≡ (if a && q x then x ∷ filter q ys else filter q ys)
filter_step q x ys true = refl
filter_step q x ys false = refl

pub filter_both : (p q r : ℕ → Bool) → ((k : ℕ) → r k ≡ (p k && q k)) → (xs : List ℕ) → filter q (filter p xs) ≡ filter r xs
filter_both p q r h [] = refl
filter_both p q r h (x ∷ xs) =
    filter_step q x (filter p xs) (p x)
    ∙ ap (λ (b : Bool). if b then x ∷ filter q (filter p xs) else filter q (filter p xs)) (sym (h x))
    ∙ ap (λ (ys : List ℕ). if r x then x ∷ ys else ys) (filter_both p q r h xs)

-- the order of two further tests does not count
swapped : (a b c : Bool) → ((a && b) && c) ≡ ((a && c) && b)
swapped true b c = and_comm b c
swapped false b c = refl

-- some are dropped
pub long_drop : (given : ℕ) (clauses : List (List ℕ)) (kept : List Bool) (ns : List ℕ) → filter (λ k. not (list_any (λ n. n == k) ns)) (long_ones given clauses kept) ≡ long_ones given clauses (kept_without kept ns)
long_drop given clauses kept ns =
    filter_both (is_long clauses kept) (λ k. not (list_any (λ n. n == k) ns)) (is_long clauses (kept_without kept ns))
    (λ k. ap (λ (b : Bool). b && nat_lt 8 (length (clause_at clauses k))) (without kept ns k)
    ∙ swapped (is_kept kept k) (not (list_any (λ n. n == k) ns)) (nat_lt 8 (length (clause_at clauses k))))
    (range_with_len given (length clauses - given))

-- they are numbers of clauses
in_range : (p : ℕ → Bool) (a n i d : ℕ) → i < length (filter p (range_with_len a n)) → get_or (filter p (range_with_len a n)) i d < a + n
in_range p a zero i d h = absurd (omega arith)
in_range p a (suc n) i d h = by (p a) i h (λ j g. in_range p (a + 1) n j d g)
  where
    by : (b : Bool) (j : ℕ) → j < length (if b then a ∷ filter p (range_with_len (a + 1) n) else filter p (range_with_len (a + 1) n)) → ((k : ℕ) → k < length (filter p (range_with_len (a + 1) n)) → get_or (filter p (range_with_len (a + 1) n)) k d < a + 1 + n) → get_or (if b then a ∷ filter p (range_with_len (a + 1) n) else filter p (range_with_len (a + 1) n)) j d < a + suc n
    by true zero g rest = omega arith
    by true (suc j) g rest = let k = rest j (omega (arith, g)) in omega (arith, k)
    by false j g rest = let k = rest j g in omega (arith, k)

pub long_below : (given : ℕ) (clauses : List (List ℕ)) (kept : List Bool) (i d : ℕ) → given ≤ length clauses → i < length (long_ones given clauses kept) → get_or (long_ones given clauses kept) i d < length clauses
long_below given clauses kept i d l h =
    let k = in_range (is_long clauses kept) given (length clauses - given) i d h in omega (arith, k, l)
