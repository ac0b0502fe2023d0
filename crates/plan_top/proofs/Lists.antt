-- Lists place by place.
use Rattle.std.proofs.Common.{◌≡◌, ◌<◌, ℕ, zero, suc, List, [], ◌∷◌, ◌++◌, length, take, slice_index_or, subst, sym, refl, ap, arith}
use Rattle.std.specs.List.{AllByRecursion, AllZip}

-- what stands at a place of both lists
pub zip_read : {X Y : Type 0} (R : X → Y → Type 0) (xs : List X) (ys : List Y) (place : ℕ) (x : X) (y : Y) → AllZip R xs ys → place < length xs → R (slice_index_or xs place x) (slice_index_or ys place y)
zip_read R [] [] place x y all within = absurd (omega (arith, within))
zip_read R [] (w ∷ ys) place x y all within = absurd all
zip_read R (v ∷ xs) [] place x y all within = absurd all
zip_read R (v ∷ xs) (w ∷ ys) zero x y all within = all.0
zip_read R (v ∷ xs) (w ∷ ys) (suc place) x y all within = zip_read R xs ys place x y all.1 (omega (arith, within))

pub zip_length : {X Y : Type 0} (R : X → Y → Type 0) (xs : List X) (ys : List Y) → AllZip R xs ys → length ys ≡ length xs
zip_length R [] [] all = refl
zip_length R [] (w ∷ ys) all = absurd all
zip_length R (v ∷ xs) [] all = absurd all
zip_length R (v ∷ xs) (w ∷ ys) all = ap suc (zip_length R xs ys all.1)

-- one list against two
pub zip_both : {X Y Z : Type 0} (R : X → Y → Type 0) (S : X → Z → Type 0) (T : Y → Z → Type 0) → ((x : X) (y : Y) (z : Z) → R x y → T y z → S x z) → (xs : List X) (ys : List Y) (zs : List Z)
    → AllZip R xs ys → AllZip T ys zs → AllZip S xs zs
zip_both R S T from [] [] [] r t = tt
zip_both R S T from [] [] (z ∷ zs) r t = absurd t
zip_both R S T from [] (y ∷ ys) zs r t = absurd r
zip_both R S T from (x ∷ xs) [] zs r t = absurd r
zip_both R S T from (x ∷ xs) (y ∷ ys) [] r t = absurd t
zip_both R S T from (x ∷ xs) (y ∷ ys) (z ∷ zs) r t = (from x y z r.0 t.0, zip_both R S T from xs ys zs r.1 t.1)

-- each of a list that is zipped
pub zip_right : {X Y : Type 0} (R : X → Y → Type 0) (P : Y → Type 0) → ((x : X) (y : Y) → R x y → P y) → (xs : List X) (ys : List Y) → AllZip R xs ys → AllByRecursion P ys
zip_right R P from [] [] r = tt
zip_right R P from [] (y ∷ ys) r = absurd r
zip_right R P from (x ∷ xs) [] r = absurd r
zip_right R P from (x ∷ xs) (y ∷ ys) r = (from x y r.0, zip_right R P from xs ys r.1)

-- what was read at a place of each
pub zip_here : {X Y : Type 0} (R : X → Y → Type 0) (xs : List X) (ys : List Y) (place : ℕ) (x : X) (y : Y) → AllZip R xs ys → place < length xs → x ≡ slice_index_or xs place x → y ≡ slice_index_or ys place y → R x y
zip_here R xs ys place x y all within one other =
    subst (λ v. R v y) (sym one) (subst (λ w. R (slice_index_or xs place x) w) (sym other) (zip_read R xs ys place x y all within))

-- one item more of a list
pub take_more : {X : Type 0} (xs : List X) (place : ℕ) (x : X) → place < length xs → x ≡ slice_index_or xs place x → take (suc place) xs ≡ take place xs ++ x ∷ []
take_more [] place x within is = absurd (omega (arith, within))
take_more (y ∷ ys) zero x within is = ap (λ z. z ∷ []) (sym is)
take_more (y ∷ ys) (suc place) x within is = ap (λ zs. y ∷ zs) (take_more ys place x (omega (arith, within)) is)
