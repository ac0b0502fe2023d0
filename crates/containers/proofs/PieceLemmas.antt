-- Lists in one list of items, by their numbers and with one more at the end.
use Rattle.std.proofs.Common.{arith, ◌≡◌, ℕ, zero, suc, ◌+◌, ◌-◌, ◌<◌, ◌≤◌, List, [], ◌∷◌, ◌++◌, length, length-append, take, drop, get_or, refl, ap, sym, ◌∙◌, subst, Some}
use Rattle.std.specs.List.{slice_get, slice_range}
use Rattle.std.proofs.lemmas.List.{drop-append-le, take-append-le, length-drop, take_all}
use Rattle.std.proofs.Math.Seq.{drop-append_seam}
use Rattle.containers.specs.own.Pieces.{pieces, start_of, AreEnds}

pub length-pieces : {A : Type 0} (from : ℕ) (items : List A) (ends : List ℕ) → length (pieces from items ends) ≡ length ends
length-pieces from items [] = refl
length-pieces from items (end ∷ ends) = ap (λ (n : ℕ). suc n) (length-pieces end items ends)

-- a list by its number
pub piece_at : {A : Type 0} (from : ℕ) (items : List A) (ends : List ℕ) (number d : ℕ) → number < length ends → slice_get (pieces from items ends) number ≡ Some (slice_range items (start_of from ends number) (get_or ends number d))
piece_at from items [] number d h = absurd (omega arith)
piece_at from items (end ∷ ends) zero d h = refl
piece_at from items (end ∷ ends) (suc number) d h = piece_at end items ends number d (omega arith)

pub start_of-first : (from : ℕ) (ends : List ℕ) → start_of from ends 0 ≡ from
start_of-first from [] = refl
start_of-first from (end ∷ ends) = refl

-- a list begins where the one before it ends
pub start_of-next : (from : ℕ) (ends : List ℕ) (number d : ℕ) → suc number < length ends → start_of from ends (suc number) ≡ get_or ends number d
start_of-next from [] number d h = absurd (omega arith)
start_of-next from (end ∷ []) number d h = absurd (omega arith)
start_of-next from (end ∷ next ∷ ends) zero d h = refl
start_of-next from (end ∷ next ∷ ends) (suc number) d h = start_of-next end (next ∷ ends) number d (omega arith)

pub from_within : (from : ℕ) (ends : List ℕ) (long : ℕ) → AreEnds from ends long → from ≤ long
from_within from [] long a = omega arith
from_within from (end ∷ ends) long a = let r = from_within end ends long a.1 in omega (arith, a.0)

-- it ends after its start, within the items
pub start_within : (from : ℕ) (ends : List ℕ) (long number d : ℕ) → AreEnds from ends long → number < length ends → start_of from ends number ≤ get_or ends number d
start_within from [] long number d a h = absurd (omega arith)
start_within from (end ∷ ends) long zero d a h = a.0
start_within from (end ∷ ends) long (suc number) d a h = start_within end ends long number d a.1 (omega arith)

pub end_within : (from : ℕ) (ends : List ℕ) (long number d : ℕ) → AreEnds from ends long → number < length ends → get_or ends number d ≤ long
end_within from [] long number d a h = absurd (omega arith)
end_within from (end ∷ ends) long zero d a h = from_within end ends long a.1
end_within from (end ∷ ends) long (suc number) d a h = end_within end ends long number d a.1 (omega arith)

-- with one more end
AreEnds-push : (from : ℕ) (ends : List ℕ) (long end : ℕ) → AreEnds from ends long → long ≤ end → AreEnds from (ends ++ end ∷ []) end
AreEnds-push from [] long end a h = (omega (arith, a), refl)
AreEnds-push from (e ∷ ends) long end a h = (a.0, AreEnds-push e ends long end a.1 h)

-- what stands before is not changed by more items after it
range_kept : {A : Type 0} (items more : List A) (from end : ℕ) → from ≤ end → end ≤ length items → slice_range (items ++ more) from end ≡ slice_range items from end
range_kept items more from end le within =
    ap (take (end - from)) (drop-append-le from items more (omega (arith, le, within)))
    ∙ take-append-le (end - from) (drop from items) more (omega (arith, le, within, length-drop from items))

range_last : {A : Type 0} (items more : List A) → slice_range (items ++ more) (length items) (length items + length more) ≡ more
range_last items more =
    ap (take (length items + length more - length items)) (drop-append_seam items more)
    ∙ take_all (length items + length more - length items) more (omega arith)

-- with one more list at the end
pieces-push : {A : Type 0} (from : ℕ) (items : List A) (ends : List ℕ) (more : List A) → AreEnds from ends (length items) → pieces from (items ++ more) (ends ++ (length items + length more) ∷ []) ≡ pieces from items ends ++ more ∷ []
pieces-push from items [] more a = ap (λ (n : ℕ). slice_range (items ++ more) n (length items + length more) ∷ []) a ∙ ap (λ (r : _). r ∷ []) (range_last items more)
pieces-push from items (end ∷ ends) more a =
    let here = range_kept items more from end a.0 (from_within end ends (length items) a.1) in
    let rest = pieces-push end items ends more a.1 in
    λ i. here i ∷ rest i

-- the ends, and the lists, once a list and its end were added
pub cut_by : {A : Type 0} (items now : List A) (ends pushed : List ℕ) (more : List A) (end : ℕ) → AreEnds 0 ends (length items) → pushed ≡ ends ++ end ∷ [] → now ≡ items ++ more → end ≡ length now → AreEnds 0 pushed (length now)
cut_by items now ends pushed more end a p m e =
    let long : length now ≡ length items + length more = ap length m ∙ length-append items more in
    let fine : AreEnds 0 (ends ++ end ∷ []) end = AreEnds-push 0 ends (length items) end a (omega (arith, e, long)) in
    subst (λ (n : ℕ). AreEnds 0 pushed n) e (subst (λ (xs : List ℕ). AreEnds 0 xs end) (sym p) fine)

pub pieces_by : {A : Type 0} (items now : List A) (ends pushed : List ℕ) (more : List A) (end : ℕ) → AreEnds 0 ends (length items) → pushed ≡ ends ++ end ∷ [] → now ≡ items ++ more → end ≡ length now → pieces 0 now pushed ≡ pieces 0 items ends ++ more ∷ []
pieces_by items now ends pushed more end a p m e =
    let long : end ≡ length items + length more = e ∙ ap length m ∙ length-append items more in
    ap (λ (xs : _). pieces 0 xs pushed) m
    ∙ ap (λ (xs : List ℕ). pieces 0 (items ++ more) xs) (p ∙ ap (λ (n : ℕ). ends ++ n ∷ []) long)
    ∙ pieces-push 0 items ends more a
