-- What pages come to as clauses are added and taken out.
use Rattle.std.proofs.Common.{arith, ◌≡◌, ℕ, zero, suc, ◌+◌, ◌<◌, ◌≤◌, inl, inr, List, [], ◌∷◌, ◌++◌, length, take, set, Option, Some, None, slice_get, slice_index_or, refl, sym, ap, ◌∙◌, subst, length-append, add-one}
use Rattle.std.proofs.lemmas.Option.{slice_get_past}
use Rattle.std.proofs.lemmas.List.{map-append, map-set, length-map, length-set}
use Rattle.std.proofs.Math.Seq.{take-suc}
use Rattle.clause_base.proofs.published.RepeatLemmas.{get_left}
use Rattle.rup_check.specs.own.Page.{IsSlot, AreSlots, clauses_at}

slot_more : (n slot : ℕ) → IsSlot n slot → IsSlot (n + 1) slot
slot_more n slot (inl h) = inl (omega (arith, h))
slot_more n slot (inr h) = inr h

-- with one more clause, one more number may have it
pub slots_more : (n new : ℕ) (slots : List ℕ) → AreSlots n slots → IsSlot (n + 1) new → AreSlots (n + 1) (slots ++ new ∷ [])
slots_more n new [] h s = (s, tt)
slots_more n new (x ∷ xs) h s = (slot_more n x h.0, slots_more n new xs h.1 s)

-- one more number
pub slots_end : (n new : ℕ) (slots : List ℕ) → AreSlots n slots → IsSlot n new → AreSlots n (slots ++ new ∷ [])
slots_end n new [] h s = (s, tt)
slots_end n new (x ∷ xs) h s = (h.0, slots_end n new xs h.1 s)

-- another place for one number
pub slots_set : (n new i : ℕ) (slots : List ℕ) → AreSlots n slots → IsSlot n new → AreSlots n (set slots i new)
slots_set n new i [] h s = tt
slots_set n new zero (x ∷ xs) h s = (s, h.1)
slots_set n new (suc i) (x ∷ xs) h s = (h.0, slots_set n new i xs h.1 s)

-- the clause of a number is as it was with one more clause at the end
get_more : (lists : List (List ℕ)) (clause : List ℕ) (slot : ℕ) → length lists < 255 → IsSlot (length lists) slot → slice_get (lists ++ clause ∷ []) slot ≡ slice_get lists slot
get_more lists clause slot few (inl h) = get_left lists (clause ∷ []) slot h
get_more lists clause slot few (inr h) =
    let long : length (lists ++ clause ∷ []) ≡ length lists + 1 = length-append lists (clause ∷ []) in
    slice_get_past (lists ++ clause ∷ []) slot (omega (arith, few, h, long)) ∙ sym (slice_get_past lists slot (omega (arith, few, h)))

same_more : (lists : List (List ℕ)) (clause : List ℕ) (slots : List ℕ) → length lists < 255 → AreSlots (length lists) slots → clauses_at (lists ++ clause ∷ []) slots ≡ clauses_at lists slots
same_more lists clause [] few h = refl
same_more lists clause (x ∷ xs) few h =
    ap (λ (o : Option (List ℕ)). o ∷ clauses_at (lists ++ clause ∷ []) xs) (get_more lists clause x few h.0)
    ∙ ap (λ (os : List (Option (List ℕ))). slice_get lists x ∷ os) (same_more lists clause xs few h.1)

get_end : (lists : List (List ℕ)) (clause : List ℕ) → slice_get (lists ++ clause ∷ []) (length lists) ≡ Some clause
get_end [] clause = refl
get_end (x ∷ lists) clause = get_end lists clause

-- one more clause with a number
pub clauses_more : (lists more : List (List ℕ)) (clause slots now : List ℕ) (slot : ℕ) → length lists < 255 → AreSlots (length lists) slots → slot ≡ length lists → more ≡ lists ++ clause ∷ [] → now ≡ slots ++ slot ∷ [] → clauses_at more now ≡ clauses_at lists slots ++ Some clause ∷ []
clauses_more lists more clause slots now slot few h e m n =
    ap (λ (ls : List (List ℕ)). clauses_at ls now) m
    ∙ ap (clauses_at (lists ++ clause ∷ [])) n
    ∙ map-append (slice_get (lists ++ clause ∷ [])) slots (slot ∷ [])
    ∙ ap (λ (os : List (Option (List ℕ))). os ++ slice_get (lists ++ clause ∷ []) slot ∷ []) (same_more lists clause slots few h)
    ∙ ap (λ (o : Option (List ℕ)). clauses_at lists slots ++ o ∷ []) (ap (slice_get (lists ++ clause ∷ [])) e ∙ get_end lists clause)

-- one more number without a clause
pub clauses_gone : (lists : List (List ℕ)) (slots : List ℕ) → length lists ≤ 255 → clauses_at lists (slots ++ 255 ∷ []) ≡ clauses_at lists slots ++ None ∷ []
clauses_gone lists slots few =
    map-append (slice_get lists) slots (255 ∷ [])
    ∙ ap (λ (o : Option (List ℕ)). clauses_at lists slots ++ o ∷ []) (slice_get_past lists 255 few)

-- a clause that is taken out
pub clauses_set : (lists : List (List ℕ)) (slots : List ℕ) (i : ℕ) → length lists ≤ 255 → clauses_at lists (set slots i 255) ≡ set (clauses_at lists slots) i None
clauses_set lists slots i few =
    map-set (slice_get lists) slots i 255
    ∙ ap (λ (o : Option (List ℕ)). set (clauses_at lists slots) i o) (slice_get_past lists 255 few)

-- how many numbers there are
pub long_view : (lists : List (List ℕ)) (slots : List ℕ) → length (clauses_at lists slots) ≡ length slots
long_view lists slots = length-map slots (slice_get lists)

-- a page keeps its form
abbrev pub IsPage : List (List ℕ) → List ℕ → Type 0
IsPage lists slots = AreSlots (length lists) slots × ((length lists ≤ length slots) × (length slots ≤ 128))

pub page_more : (lists more : List (List ℕ)) (clause slots now : List ℕ) (slot : ℕ) → IsPage lists slots → length slots < 128 → slot ≡ length lists → more ≡ lists ++ clause ∷ [] → now ≡ slots ++ slot ∷ [] → IsPage more now
page_more lists more clause slots now slot h lt e m n =
    let a : length more ≡ length lists + 1 = ap length m ∙ length-append lists (clause ∷ []) in
    let b : length now ≡ length slots + 1 = ap length n ∙ length-append slots (slot ∷ []) in
    let s : AreSlots (length lists + 1) (slots ++ slot ∷ []) = slots_more (length lists) slot slots h.0 (inl (omega (arith, e))) in
    let few = h.1.0 in
    (subst (λ (k : ℕ). AreSlots k now) (sym a) (subst (AreSlots (length lists + 1)) (sym n) s), (omega (arith, a, b, few), omega (arith, b, lt)))

pub page_gone : (lists : List (List ℕ)) (slots now : List ℕ) → IsPage lists slots → length slots < 128 → now ≡ slots ++ 255 ∷ [] → IsPage lists now
page_gone lists slots now h lt n =
    let b : length now ≡ length slots + 1 = ap length n ∙ length-append slots (255 ∷ []) in
    let few = h.1.0 in
    (subst (AreSlots (length lists)) (sym n) (slots_end (length lists) 255 slots h.0 (inr refl)), (omega (arith, b, few), omega (arith, b, lt)))

pub page_set : (lists : List (List ℕ)) (slots : List ℕ) (i : ℕ) → IsPage lists slots → IsPage lists (set slots i 255)
page_set lists slots i h =
    let b : length (set slots i 255) ≡ length slots = length-set slots i 255 in
    let few = h.1.0 in
    let most = h.1.1 in
    (slots_set (length lists) 255 i slots h.0 (inr refl), (omega (arith, b, few), omega (arith, b, most)))

-- the items up to one more
pub taken_more : (xs now page : List (Option (List ℕ))) (n : ℕ) (x : Option (List ℕ)) → n < length xs → page ≡ take n xs → slice_index_or xs n None ≡ x → now ≡ page ++ x ∷ [] → now ≡ take (n + 1) xs
taken_more xs now page n x lt p e h =
    h ∙ ap (λ (os : List (Option (List ℕ))). os ++ x ∷ []) p
    ∙ ap (λ (o : Option (List ℕ)). take n xs ++ o ∷ []) (sym e)
    ∙ sym (take-suc xs n None lt)
    ∙ ap (λ (m : ℕ). take m xs) (sym (add-one n))
