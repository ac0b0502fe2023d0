-- Where parents lead, by maps of all types at once.
use Rattle.std.proofs.Common.{◌≡◌, ℕ, zero, suc, ◌+◌, ◌<◌, Bool, true, false, ◌==◌, ◌||◌, List, [], ◌∷◌, ◌++◌, length, map, take, get_or, slice_index, refl, ap, ◌∙◌, sym, arith}
use Rattle.std.specs.List.{range_with_len}
use Rattle.std.proofs.lemmas.List.{get_or-map, length-map, map-append, take_more}
use Rattle.std.proofs.lemmas.List.FromFn.{get_or-map-range_with_len, length-map-range_with_len, fill_by_all, map-range_with_len_more}
use Rattle.std.proofs.lemmas.Bool.{eqb-true}
use Rattle.pd_model.specs.Types.{leads_to, is_under}
use Rattle.pd_words.specs.Types.{ancestor, ancestors, AreParents}

pub numbers_more : (n : ℕ) → map (λ k. k) (range_with_len 0 (n + 1)) ≡ map (λ k. k) (range_with_len 0 n) ++ n ∷ []
numbers_more n = map-range_with_len_more (λ k. k) 0 n n (omega arith)

-- a list is mapped up to one place more
pub map_more : {A : Type 0} (f : A → ℕ) (xs : List A) (i : ℕ) (d : A) (before after : List ℕ) → i < length xs → before ≡ map f (take i xs) → after ≡ before ++ f (get_or xs i d) ∷ [] → after ≡ map f (take (i + 1) xs)
map_more f xs i d before after lt old new =
    new ∙ ap (λ (ys : List ℕ). ys ++ f (get_or xs i d) ∷ []) old ∙ sym (ap (map f) (take_more xs i d lt) ∙ map-append f (take i xs) (get_or xs i d ∷ []))

-- steps add up
ancestor_sum : (parents : List ℕ) (m n kind : ℕ) → ancestor parents (m + n) kind ≡ ancestor parents m (ancestor parents n kind)
ancestor_sum parents zero n kind = let e : zero + n ≡ n = omega arith in rw e refl
ancestor_sum parents (suc m) n kind = let e : suc m + n ≡ suc (m + n) = omega arith in rw e (ap (slice_index parents) (ancestor_sum parents m n kind))

ancestor_below : (parents : List ℕ) → AreParents parents → (n kind : ℕ) → kind < length parents → ancestor parents n kind < length parents
ancestor_below parents are zero kind lt = lt
ancestor_below parents are (suc n) kind lt = are.below (ancestor parents n kind) (ancestor_below parents are n kind lt)

-- one map of ancestors after another
pub composed_is : (parents : List ℕ) (m n steps : ℕ) → AreParents parents → m + n ≡ steps
    → map (slice_index (ancestors parents m)) (ancestors parents n) ≡ ancestors parents steps
composed_is parents m n steps are sum =
    let size = length parents in
    let inner = ancestors parents n in
    let long : length inner ≡ size = length-map-range_with_len (ancestor parents n) 0 size in
    let all : length (map (slice_index (ancestors parents m)) inner) ≡ size = length-map inner (slice_index (ancestors parents m)) ∙ long in
    fill_by_all (ancestor parents steps) (map (slice_index (ancestors parents m)) inner) size 0 all
    (λ k lt.
    let here : get_or inner k 0 ≡ ancestor parents n k = get_or-map-range_with_len (ancestor parents n) 0 size k k 0 lt (omega arith) in
    let there : get_or (ancestors parents m) (ancestor parents n k) 0 ≡ ancestor parents m (ancestor parents n k)
    = get_or-map-range_with_len (ancestor parents m) 0 size (ancestor parents n k) (ancestor parents n k) 0 (ancestor_below parents are n k lt) (omega arith) in
    get_or-map (slice_index (ancestors parents m)) inner k 0 0 (omega arith) ∙ ap (slice_index (ancestors parents m)) here ∙ there
    ∙ sym (ancestor_sum parents m n k) ∙ ap (λ s. ancestor parents s k) sum)

-- one step more
pub one_more : (parents : List ℕ) (n steps : ℕ) → suc n ≡ steps → map (slice_index parents) (ancestors parents n) ≡ ancestors parents steps
one_more parents n steps next =
    let size = length parents in
    let inner = ancestors parents n in
    let long : length inner ≡ size = length-map-range_with_len (ancestor parents n) 0 size in
    let all : length (map (slice_index parents) inner) ≡ size = length-map inner (slice_index parents) ∙ long in
    fill_by_all (ancestor parents steps) (map (slice_index parents) inner) size 0 all
    (λ k lt.
    let here : get_or inner k 0 ≡ ancestor parents n k = get_or-map-range_with_len (ancestor parents n) 0 size k k 0 lt (omega arith) in
    get_or-map (slice_index parents) inner k 0 0 (omega arith) ∙ ap (slice_index parents) here ∙ ap (λ s. ancestor parents s k) next)

ancestor_zero : (parents : List ℕ) → slice_index parents 0 ≡ 0 → (n : ℕ) → ancestor parents n 0 ≡ 0
ancestor_zero parents first zero = refl
ancestor_zero parents first (suc n) = ap (slice_index parents) (ancestor_zero parents first n) ∙ first

ancestor_next : (parents : List ℕ) (n kind : ℕ) → ancestor parents (suc n) kind ≡ ancestor parents n (slice_index parents kind)
ancestor_next parents zero kind = refl
ancestor_next parents (suc n) kind = ap (slice_index parents) (ancestor_next parents n kind)

or_is : (b c : Bool) → (b ≡ true → c ≡ true) → b || c ≡ c
or_is true c h = sym (h refl)
or_is false c h = refl

is_zero : (n : ℕ) → (n == 0) ≡ true → n ≡ 0
is_zero n e = eqb-true n 0 e

leads_is : (parents : List ℕ) → slice_index parents 0 ≡ 0 → (n kind : ℕ) → leads_to parents n kind 0 ≡ (ancestor parents n kind == 0)
leads_is parents first zero kind = refl
leads_is parents first (suc n) kind =
    let later : leads_to parents n (slice_index parents kind) 0 ≡ (ancestor parents (suc n) kind == 0)
    = leads_is parents first n (slice_index parents kind) ∙ ap (λ (a : ℕ). a == 0) (sym (ancestor_next parents n kind)) in
    ap (λ (b : Bool). (kind == 0) || b) later
    ∙ or_is (kind == 0) (ancestor parents (suc n) kind == 0)
    (λ e. ap (λ (a : ℕ). a == 0) (ap (λ k. ancestor parents (suc n) k) (is_zero kind e) ∙ ancestor_zero parents first (suc n)))

-- a type lies under `object` where as many steps as there are types lead there
pub under_is : (parents last : List ℕ) (kind : ℕ) → AreParents parents → last ≡ ancestors parents (length parents) → kind < length parents
    → is_under parents kind 0 ≡ (slice_index last kind == 0)
under_is parents last kind are is lt =
    let size = length parents in
    let here : slice_index last kind ≡ ancestor parents size kind = ap (λ (xs : List ℕ). slice_index xs kind) is ∙ get_or-map-range_with_len (ancestor parents size) 0 size kind kind 0 lt (omega arith) in
    leads_is parents are.object_first size kind ∙ ap (λ (a : ℕ). a == 0) (sym here)
