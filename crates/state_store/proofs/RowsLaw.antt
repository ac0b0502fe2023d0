-- Rows in one list of words, by their numbers and with one more at the end.
use Rattle.std.proofs.Common.{arith, ◌≡◌, ℕ, zero, suc, ◌+◌, ◌*◌, ◌<◌, ◌≤◌, List, [], ◌∷◌, ◌++◌, length, take, drop, refl, ap, ◌∙◌, Some}
use Rattle.std.specs.Prelude.{slice_get}
use Rattle.std.proofs.Math.Nat.{suc-mul, mul-le-mul_right}
use Rattle.std.proofs.lemmas.List.{drop-append-le, take-append-le, length-drop, length-append, drop-drop, take_all}
use Rattle.state_store.specs.own.Rows.{rows_of}

pub length-rows : (width count : ℕ) (words : List ℕ) → length (rows_of width count words) ≡ count
length-rows width zero words = refl
length-rows width (suc count) words = ap suc (length-rows width count (drop width words))

-- a row by its number
pub row_at : (width count : ℕ) (words : List ℕ) (k : ℕ) → k < count → slice_get (rows_of width count words) k ≡ Some (take width (drop (k * width) words))
row_at width zero words k lt = absurd (omega (arith, lt))
row_at width (suc count) words zero lt = let z : 0 ≡ 0 * width = omega arith in ap (λ (n : ℕ). Some (take width (drop n words))) z
row_at width (suc count) words (suc k) lt =
    let far : width + k * width ≡ suc k * width = let e = suc-mul k width in omega (arith, e) in
    row_at width count (drop width words) k (omega (arith, lt))
    ∙ ap (λ (xs : List ℕ). Some (take width xs)) (drop-drop (k * width) width words ∙ ap (λ (n : ℕ). drop n words) far)

-- with one more row at the end
push_one : (width count : ℕ) (words row : List ℕ) → length words ≡ count * width → length row ≡ width → rows_of width (suc count) (words ++ row) ≡ rows_of width count words ++ row ∷ []
push_one width zero [] row long wide = ap (λ (xs : List ℕ). xs ∷ []) (take_all width row (omega (arith, wide)))
push_one width zero (w ∷ words) row long wide = absurd (let z : 0 * width ≡ 0 = omega arith in omega (arith, long, z))
push_one width (suc count) words row long wide =
    let e : length words ≡ count * width + width = long ∙ suc-mul count width in
    let rest : length (drop width words) ≡ count * width = let l = length-drop width words in omega (arith, l, e) in
    ap (λ (xs : List ℕ). xs ∷ rows_of width (suc count) (drop width (words ++ row))) (take-append-le width words row (omega (arith, e)))
    ∙ ap (λ (xs : List ℕ). take width words ∷ rows_of width (suc count) xs) (drop-append-le width words row (omega (arith, e)))
    ∙ ap (λ (xs : List (List ℕ)). take width words ∷ xs) (push_one width count (drop width words) row rest wide)

pub rows_push : (width count : ℕ) (words row : List ℕ) → length words ≡ count * width → length row ≡ width → rows_of width (count + 1) (words ++ row) ≡ rows_of width count words ++ row ∷ []
rows_push width count words row long wide =
    let one : count + 1 ≡ suc count = omega arith in
    ap (λ (n : ℕ). rows_of width n (words ++ row)) one ∙ push_one width count words row long wide

-- a row ends within the words
pub row_within : (width count k : ℕ) → k < count → k * width + width ≤ count * width
row_within width count k lt =
    let m : suc k * width ≤ count * width = mul-le-mul_right width (omega (arith, lt)) in
    let e = suc-mul k width in
    omega (arith, m, e)

-- there is room for one more row
pub row_fits : (width count most room : ℕ) (words row : List ℕ) → count < most → most * width ≤ room → length words ≡ count * width → length row ≡ width → length words + length row ≤ room
row_fits width count most room words row lt le long wide = let within = row_within width most count lt in omega (arith, within, le, long, wide)

pub more_words : (width count : ℕ) (words now row : List ℕ) → now ≡ words ++ row → length words ≡ count * width → length row ≡ width → length now ≡ (count + 1) * width
more_words width count words now row is long wide =
    let l = ap length is ∙ length-append words row in
    let e : suc count * width ≡ count * width + width = suc-mul count width in
    let s : (count + 1) * width ≡ suc count * width = ap (λ (n : ℕ). n * width) (let o : count + 1 ≡ suc count = omega arith in o) in
    omega (arith, l, e, s, long, wide)
