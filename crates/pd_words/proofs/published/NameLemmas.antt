-- Numbers of names in growing lists.
use Rattle.std.proofs.Common.{◌≡◌, ℕ, suc, ◌<◌, Bool, true, false, cond, List, [], ◌∷◌, ◌++◌, length, Option, Some, None, refl, ◌∙◌, sym, arith}
use Rattle.std.proofs.lemmas.List.Folds.{list_all-append}
use Rattle.std.proofs.lemmas.Bool.{and_parts, not-true, and_from}
use Rattle.std.specs.Prelude.{option_map, IfSome, is_some, not}
use Rattle.std.specs.List.{list_all}
use Rattle.pd_sexp.specs.Word.{is_word}
use Rattle.pd_model.specs.Names.{are_distinct, are_names}
use Rattle.std.proofs.lemmas.Slice.Eq.{bytes_eq-Decides}
use Rattle.std.proofs.lemmas.Bool.Decides.{same_from_decides, Decides-like}
use Rattle.std.specs.Str.{bytes_eq}
use Rattle.pd_words.specs.Names.{number_of, or_else, is_among}

number_suc : (b : Bool) (n : ℕ) (before : Option ℕ) → option_map suc (or_else before (cond b (Some n) None)) ≡ or_else (option_map suc before) (cond b (Some (suc n)) None)
number_suc true n (Some k) = refl
number_suc false n (Some k) = refl
number_suc true n None = refl
number_suc false n None = refl

number_here : (b : Bool) (other : Option ℕ) (more : Option ℕ) → cond b (Some 0) (or_else other more) ≡ or_else (cond b (Some 0) other) more
number_here true other more = refl
number_here false other more = refl

-- a name that is new gets the next number
pub number_push : (name : List ℕ) (xs : List (List ℕ)) (x : List ℕ) → number_of name (xs ++ x ∷ []) ≡ or_else (number_of name xs) (cond (bytes_eq name x) (Some (length xs)) None)
number_push name [] x = refl
number_push name (y ∷ ys) x =
    rw (number_push name ys x, number_suc (bytes_eq name x) (length ys) (number_of name ys)) (number_here (bytes_eq name y) (option_map suc (number_of name ys)) (cond (bytes_eq name x) (Some (suc (length ys))) None))

below_suc : (b : Bool) (found : Option ℕ) (n : ℕ) → IfSome found (λ i. i < n) → IfSome (cond b (Some 0) (option_map suc found)) (λ i. i < suc n)
below_suc true found n h = omega arith
below_suc false None n h = tt
below_suc false (Some k) n h = omega (arith, h)

pub number_below : (name : List ℕ) (names : List (List ℕ)) → IfSome (number_of name names) (λ i. i < length names)
number_below name [] = tt
number_below name (n ∷ ns) = below_suc (bytes_eq name n) (number_of name ns) (length ns) (number_below name ns)

some_here : (b : Bool) (found : Option ℕ) (later : Bool) → is_some found ≡ later → is_some (cond b (Some 0) (option_map suc found)) ≡ cond b true later
some_here true found later h = refl
some_here false None later h = h
some_here false (Some k) later h = h

-- a name has a number where it is among the names
pub number_among : (name : List ℕ) (names : List (List ℕ)) → is_some (number_of name names) ≡ is_among name names
number_among name [] = refl
number_among name (n ∷ ns) = some_here (bytes_eq name n) (number_of name ns) (is_among name ns) (number_among name ns)

-- a name that is not among others has no number
pub number_none : (name : List ℕ) (names : List (List ℕ)) → is_among name names ≡ false → number_of name names ≡ None
number_none name names e = is_none (number_of name names) (number_among name names ∙ e)
  where
    is_none : (found : Option ℕ) → is_some found ≡ false → found ≡ None
    is_none None h = refl
    is_none (Some k) h = absurd cc

-- ---- names that are words, each once

same_either_way : (a b : List ℕ) → bytes_eq a b ≡ bytes_eq b a
same_either_way a b = same_from_decides (bytes_eq a b) (bytes_eq b a) (bytes_eq-Decides a b) (Decides-like (bytes_eq b a) sym sym (bytes_eq-Decides b a))

among_push : (name : List ℕ) (names : List (List ℕ)) (more : List ℕ) → is_among name (names ++ more ∷ []) ≡ cond (is_among name names) true (bytes_eq name more)
among_push name [] more = by_test (bytes_eq name more)
  where
    by_test : (b : Bool) → cond b true false ≡ b
    by_test true = refl
    by_test false = refl
among_push name (n ∷ ns) more = by_test (bytes_eq name n) (among_push name ns more)
  where
    by_test : (b : Bool) → is_among name (ns ++ more ∷ []) ≡ cond (is_among name ns) true (bytes_eq name more) → cond b true (is_among name (ns ++ more ∷ [])) ≡ cond (cond b true (is_among name ns)) true (bytes_eq name more)
    by_test true later = refl
    by_test false later = later

distinct_push : (names : List (List ℕ)) (name : List ℕ) → are_distinct names ≡ true → is_among name names ≡ false → are_distinct (names ++ name ∷ []) ≡ true
distinct_push [] name once new = refl
distinct_push (n ∷ ns) name once new =
    let parts = and_parts (not (is_among n ns)) (are_distinct ns) once in
    let apart = neither (bytes_eq name n) (is_among name ns) new in
    let alone : is_among n (ns ++ name ∷ []) ≡ false = among_push n ns name ∙ rw (not-true (is_among n ns) (parts.0), same_either_way n name, apart.0) refl in
    rw (alone, distinct_push ns name (parts.1) (apart.1)) refl
  where
    neither : (b c : Bool) → cond b true c ≡ false → (b ≡ false) × (c ≡ false)
    neither true c e = absurd cc
    neither false c e = (refl, e)

pub all_append : {A : Type 0} (test : A → Bool) (xs ys : List A) → list_all test xs ≡ true → list_all test ys ≡ true → list_all test (xs ++ ys) ≡ true
all_append test xs ys h g = list_all-append test xs ys ∙ and_from (list_all test xs) (list_all test ys) h g

pub all_push : {A : Type 0} (test : A → Bool) (xs : List A) (x : A) → list_all test xs ≡ true → test x ≡ true → list_all test (xs ++ x ∷ []) ≡ true
all_push test xs x h g = all_append test xs (x ∷ []) h (and_from (test x) true g refl)

-- one name more
pub names_push : (names : List (List ℕ)) (name : List ℕ) → are_names names ≡ true → is_word name ≡ true → is_among name names ≡ false → are_names (names ++ name ∷ []) ≡ true
names_push names name are is new =
    let parts = and_parts (list_all is_word names) (are_distinct names) are in
    rw (all_push is_word names name (parts.0) is, distinct_push names name (parts.1) new) refl
