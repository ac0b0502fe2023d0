-- Loops over objects, types and effects.
use Rattle.std.proofs.Common.{◌≡◌, ℕ, zero, suc, ◌+◌, ◌-◌, ◌<◌, Bool, true, false, cond, List, [], ◌∷◌, ◌++◌, length, take, drop, get_or, map, refl, sym, ap, ◌∙◌, append_assoc, arith}
use Rattle.std.specs.Prelude.{slice_get}
use Rattle.std.specs.List.{flat_map, filter}
use Rattle.std.proofs.lemmas.Bool.{and_parts}
use Rattle.std.proofs.lemmas.List.{append-nil, take_more, nil_from_length, take_at, length-append, map_more, at_drop_more}
use Rattle.std.proofs.lemmas.List.Concat.{flat_map-append, flat_map-cons}
use Rattle.std.proofs.lemmas.List.Elements.{filter-append}
use Rattle.pd_model.specs.Fits.{tuples, is_of, fits, all_fit}
use Rattle.pd_model.specs.declared.objects.ObjectDecl.{ObjectDecl}
use Rattle.pd_model.specs.declared.parts.Parts.{Parts}

prefixed : {A : Type 0} (f : List ℕ → List A) (o : ℕ) (ts : List (List ℕ)) → flat_map f (map (λ os. o ∷ os) ts) ≡ flat_map (λ os. f (o ∷ os)) ts
prefixed f o [] = refl
prefixed f o (t ∷ ts) = rw (flat_map-cons, flat_map-cons, prefixed f o ts) refl

pub by_first : {A : Type 0} (f : List ℕ → List A) (ts : List (List ℕ)) (os : List ℕ) → flat_map f (flat_map (λ o. map (λ more. o ∷ more) ts) os) ≡ flat_map (λ o. flat_map (λ more. f (o ∷ more)) ts) os
by_first f ts [] = refl
by_first f ts (o ∷ os) = rw (flat_map-cons, flat_map-cons, flat_map-append, prefixed f o ts, by_first f ts os) refl

pub moved : {A : Type 0} (f : List ℕ → List A) (objects : List ℕ) (o : ℕ) (ts : List (List ℕ)) → flat_map (λ more. f ((objects ++ o ∷ []) ++ more)) ts ≡ flat_map (λ more. f (objects ++ o ∷ more)) ts
moved f objects o [] = refl
moved f objects o (t ∷ ts) = rw (flat_map-cons, flat_map-cons, append_assoc objects (o ∷ []) t, moved f objects o ts) refl

pub for_none : {A : Type 0} (f : List ℕ → List A) (p : Parts) (objects over : List ℕ) → length over ≡ 0 → flat_map (λ more. f (objects ++ more)) (tuples p over) ≡ f objects
for_none f p objects over none = rw (nil_from_length over none, append-nil, append-nil) refl

pub popped : (xs ys zs : List ℕ) (o n : ℕ) → zs ≡ xs ++ o ∷ [] → length zs ≡ n → ys ≡ take (n - 1) zs → ys ≡ xs
popped xs ys zs o n is long rest =
    let less : n - 1 ≡ length xs = omega (arith, long, ap length is, length-append xs (o ∷ [])) in
    rest ∙ rw (less, is, take_at) refl

chosen : {X A : Type 0} (g : X → List A) (b : Bool) (x : X) (front : List A) → front ++ flat_map g (cond b (x ∷ []) []) ≡ front ++ cond b (g x) []
chosen g true x front = ap (λ (ys : List _). front ++ ys) (append-nil (g x))
chosen g false x front = refl

pub signed_more : {X A : Type 0} (g : X → List A) (pick : X → Bool) (xs : List X) (i : ℕ) (x : X) → i < length xs → x ≡ get_or xs i x
    → flat_map g (filter pick (take (i + 1) xs)) ≡ flat_map g (filter pick (take i xs)) ++ cond (pick x) (g x) []
signed_more g pick xs i x lt at = rw (take_more xs i x lt, ← at, filter-append, flat_map-append) (chosen g (pick x) x (flat_map g (filter pick (take i xs))))

-- a loop that maps a list, once more
pub mapped_more : {X A : Type 0} (g : X → A) (xs : List X) (i : ℕ) (d : X) (so_far next : List A) → i < length xs → so_far ≡ map g (take i xs) → next ≡ so_far ++ g (get_or xs i d) ∷ [] → next ≡ map g (take (i + 1) xs)
mapped_more g xs i d so_far next lt before added = added ∙ (ap (λ (ys : List _). ys ++ g (get_or xs i d) ∷ []) before ∙ sym (map_more g xs i d lt))

-- a type is left, and no object
pub none_left : (p : Parts) (kinds : List ℕ) (i : ℕ) (rest : List ℕ) → i < length kinds → length rest ≡ 0 → all_fit p (drop i kinds) rest ≡ false
none_left p [] i rest lt none = absurd (omega (arith, lt))
none_left p (kind ∷ kinds) zero rest lt none = rw (nil_from_length rest none) refl
none_left p (kind ∷ kinds) (suc i) rest lt none = none_left p kinds i rest (omega (arith, lt)) none

-- an object that fits goes with its type
pub one_fits : (p : Parts) (kinds : List ℕ) (i kind object : ℕ) (rest others : List ℕ) → i < length kinds → rest ≡ object ∷ others → fits p (get_or kinds i kind) object ≡ true
    → all_fit p (drop (i + 1) kinds) others ≡ all_fit p (drop i kinds) rest
one_fits p kinds i kind object rest others lt is fit = sym (at_drop_more (λ (ks : List ℕ). all_fit p ks rest) kinds i kind lt ∙ rw (is, fit) refl)

-- ---- objects that fit

pub fit_length : (p : Parts) (kinds ts : List ℕ) → all_fit p kinds ts ≡ true → length ts ≡ length kinds
fit_length p [] [] h = refl
fit_length p [] (t ∷ ts) h = absurd (cc)
fit_length p (kind ∷ kinds) [] h = absurd (cc)
fit_length p (kind ∷ kinds) (t ∷ ts) h = ap suc (fit_length p kinds ts (and_parts (fits p kind t) (all_fit p kinds ts) h).1)

is_there : (p : Parts) (kind : ℕ) (objects : List ObjectDecl) (o : ℕ) → is_of p kind (slice_get objects o) ≡ true → o < length objects
is_there p kind [] o h = absurd (cc)
is_there p kind (x ∷ objects) zero h = omega arith
is_there p kind (x ∷ objects) (suc o) h = let lt = is_there p kind objects o h in omega (arith, lt)

-- an object that fits is declared
pub fits_below : (p : Parts) (kind o : ℕ) → fits p kind o ≡ true → o < length p.objects
fits_below p kind o h = is_there p kind p.objects o h
