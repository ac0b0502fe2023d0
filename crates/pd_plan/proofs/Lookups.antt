-- Names are looked up in two steps, and each list of names grows at its end.
use Rattle.std.proofs.Common.{◌≡◌, ℕ, zero, suc, ◌+◌, ◌<◌, Bool, true, false, cond, List, [], ◌∷◌, ◌++◌, length, map, take, get_or, Option, Some, None, refl, sym, ap, ◌∙◌, arith}
use Rattle.std.specs.Prelude.{option_map, slice_index, IfSome}
use Rattle.std.specs.Str.{bytes_eq}
use Rattle.std.proofs.lemmas.List.{take_more, length-map, length-take-le}
use Rattle.pd_words.specs.Names.{number_of, or_else}
use Rattle.pd_words.proofs.published.NameLemmas.{number_push, number_below}

index_first : (ns : List ℕ) (n k : ℕ) → k < length ns → slice_index (ns ++ n ∷ []) k ≡ slice_index ns k
index_first (m ∷ ms) n zero h = refl
index_first (m ∷ ms) n (suc k) h = index_first ms n k (omega (arith, h))
index_first [] n k h = absurd (omega (arith, h))

index_last : (ns : List ℕ) (n k : ℕ) → k ≡ length ns → slice_index (ns ++ n ∷ []) k ≡ n
index_last [] n zero h = refl
index_last [] n (suc k) h = absurd (omega (arith, h))
index_last (m ∷ ms) n zero h = absurd (omega (arith, h))
index_last (m ∷ ms) n (suc k) h = index_last ms n k (omega (arith, h))

-- a name that is new in the table, with its number
pub looked_up_more : (table : List (List ℕ)) (firsts : List ℕ) (name : List ℕ) (number : ℕ) (other : List ℕ) → length table ≡ length firsts
    → option_map (slice_index (firsts ++ number ∷ [])) (number_of other (table ++ name ∷ []))
    ≡ or_else (option_map (slice_index firsts) (number_of other table)) (cond (bytes_eq other name) (Some number) None)
looked_up_more table firsts name number other whole = rw (number_push other table name) (by_place (number_of other table) (bytes_eq other name) (number_below other table))
  where
    by_place : (found : Option ℕ) (b : Bool) → IfSome found (λ i. i < length table)
        → option_map (slice_index (firsts ++ number ∷ [])) (or_else found (cond b (Some (length table)) None)) ≡ or_else (option_map (slice_index firsts) found) (cond b (Some number) None)
    by_place (Some k) b below = ap (λ n. let found : Option ℕ = Some n in found) (index_first firsts number k (omega (arith, below, whole)))
    by_place None true below = ap (λ n. let found : Option ℕ = Some n in found) (index_last firsts number (length table) whole)
    by_place None false below = refl

map_push : {X : Type 0} (f : X → List ℕ) (xs : List X) (x : X) → map f (xs ++ x ∷ []) ≡ map f xs ++ f x ∷ []
map_push f [] x = refl
map_push f (y ∷ ys) x = ap (λ (zs : List (List ℕ)). f y ∷ zs) (map_push f ys x)

-- one thing more has a name
pub named_more : {X : Type 0} (f : X → List ℕ) (xs : List X) (i : ℕ) (d : X) (name : List ℕ) → i < length xs
    → or_else (number_of name (map f (take i xs))) (cond (bytes_eq name (f (get_or xs i d))) (Some i) None) ≡ number_of name (map f (take (i + 1) xs))
named_more f xs i d name inside =
    let long : length (map f (take i xs)) ≡ i = length-map (take i xs) f ∙ length-take-le i xs (omega (arith, inside)) in
    let pushed = number_push name (map f (take i xs)) (f (get_or xs i d)) in
    rw (take_more xs i d inside, map_push f (take i xs) (get_or xs i d)) (sym (rw long at pushed))
