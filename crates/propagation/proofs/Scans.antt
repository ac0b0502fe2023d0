-- Whether a clause is pending, as its literals are read.
use Rattle.std.proofs.Common.{◌≡◌, ℕ, ◌+◌, ◌<◌, ◌≤◌, ◌&&◌, ◌||◌, List, [], ◌∷◌, ◌++◌, length, cond, take, get_or, leb, Bool, true, false, not, refl, sym, ap, ◌∙◌, Option, Some, None, is_some}
use Rattle.std.specs.List.{list_any, filter}
use Rattle.std.proofs.lemmas.List.{take_all, append-nil}
use Rattle.std.proofs.lemmas.List.Elements.{filter_more}
use Rattle.std.proofs.lemmas.List.Folds.{list_any_more}
use Rattle.cdcl_defs.specs.Pending.{is_pending}
use Rattle.propagation.specs.Pending.{is_free}
use Rattle.propagation.proofs.Filters.{two_by_here, any_from_has, has_get}

-- a literal or none as a list
abbrev pub list_of : Option ℕ → List ℕ
list_of None = []
list_of (Some l) = l ∷ []

-- none of the first literals is true, and one of them at most is not false
pub record IsRead (on : ℕ → Bool) (xs : List ℕ) (i : ℕ) (left : Option ℕ) : Type 0 where
  pub none : list_any on (take i xs) ≡ false
  pub left_is : filter (is_free on) (take i xs) ≡ list_of left

-- a second literal that is not false
pub read_second : (on : ℕ → Bool) (xs : List ℕ) (i x : ℕ) (left : Option ℕ) → i < length xs → x ≡ get_or xs i 0 → IsRead on xs i left
    → is_some left ≡ true → is_free on x ≡ true → is_pending on xs ≡ false
read_second on xs i x None h e r some f = absurd (let w : ⊥ = cc in w)
read_second on xs i x (Some y) h e r some f = sym (two_by_here on xs i x h e (ap (λ (ys : List ℕ). length ys) r.left_is) f)

-- a true literal
pub read_true : (on : ℕ → Bool) (xs : List ℕ) (i x : ℕ) → i < length xs → x ≡ get_or xs i 0 → on x ≡ true → is_pending on xs ≡ false
read_true on xs i x h e t = ap (λ (b : Bool). not b && leb (length (filter (is_free on) xs)) 1) (any_from_has on xs (get_or xs i 0) (has_get xs i h) (ap on (sym e) ∙ t))

-- one literal more is read: none is true as yet
not_true : (on : ℕ → Bool) (xs : List ℕ) (i x : ℕ) → i < length xs → x ≡ get_or xs i 0 → list_any on (take i xs) ≡ false → on x ≡ false
    → list_any on (take (i + 1) xs) ≡ false
not_true on xs i x h e none t = list_any_more on xs i 0 h ∙ ap (λ (b : Bool). b || on (get_or xs i 0)) none ∙ ap on (sym e) ∙ t

-- and it is added to those that are not false, if it is none of the false ones
free_more : (on : ℕ → Bool) (xs : List ℕ) (i x : ℕ) (b : Bool) → i < length xs → x ≡ get_or xs i 0 → is_free on x ≡ b
    → filter (is_free on) (take (i + 1) xs) ≡ filter (is_free on) (take i xs) ++ cond b (x ∷ []) []
free_more on xs i x b h e f =
    filter_more (is_free on) xs i 0 h
    ∙ ap (λ (y : ℕ). filter (is_free on) (take i xs) ++ cond (is_free on y) (y ∷ []) []) (sym e)
    ∙ ap (λ (c : Bool). filter (is_free on) (take i xs) ++ cond c (x ∷ []) []) f

-- a false literal
pub read_false : (on : ℕ → Bool) (xs : List ℕ) (i x : ℕ) (left : Option ℕ) → i < length xs → x ≡ get_or xs i 0 → IsRead on xs i left → on x ≡ false
    → is_free on x ≡ false → IsRead on xs (i + 1) left
read_false on xs i x left h e r t f = record { none = not_true on xs i x h e r.none t; left_is = free_more on xs i x false h e f ∙ append-nil (filter (is_free on) (take i xs)) ∙ r.left_is }

-- the first literal that is neither true nor false
pub read_first : (on : ℕ → Bool) (xs : List ℕ) (i x : ℕ) (left : Option ℕ) → i < length xs → x ≡ get_or xs i 0 → IsRead on xs i left
    → is_some left ≡ false → on x ≡ false → is_free on x ≡ true → IsRead on xs (i + 1) (Some x)
read_first on xs i x None h e r none t f = record { none = not_true on xs i x h e r.none t; left_is = free_more on xs i x true h e f ∙ ap (λ (ys : List ℕ). ys ++ x ∷ []) r.left_is }
read_first on xs i x (Some y) h e r none t f = absurd (let w : ⊥ = cc in w)

-- all literals are read
pub read_end : (on : ℕ → Bool) (xs : List ℕ) (i : ℕ) (left : Option ℕ) → IsRead on xs i left → length xs ≤ i
    → (is_pending on xs ≡ true) × (filter (is_free on) xs ≡ list_of left)
read_end on xs i left r h =
    let all = take_all i xs h in
    let free : filter (is_free on) xs ≡ list_of left = ap (filter (is_free on)) (sym all) ∙ r.left_is in
    let none : list_any on xs ≡ false = ap (list_any on) (sym all) ∙ r.none in
    (ap (λ (b : Bool). not b && leb (length (filter (is_free on) xs)) 1) none ∙ ap (λ (ys : List ℕ). leb (length ys) 1) free ∙ short left, free)
  where
    short : (o : Option ℕ) → leb (length (list_of o)) 1 ≡ true
    short None = refl
    short (Some l) = refl
