-- The clauses of the steps of a formula by their numbers among all clauses, and what holds of the slots of these.
use Rattle.std.proofs.Common.{arith, ◌≡◌, ℕ, zero, suc, ◌+◌, ◌-◌, ◌*◌, ◌<◌, ◌≤◌, List, [], ◌∷◌, ◌++◌, length, get_or, Some, Option, unwrap_or, min, sym, ap, ◌∙◌, subst, inl, inr}
use Rattle.std.specs.List.{slice_get}
use Rattle.std.proofs.Math.Nat.{mul-le-mul_right}
use Rattle.std.proofs.lemmas.List.{length_push, get_or_append_left}
use Rattle.std.proofs.lemmas.Option.{slice_get-get_or, unwrap_or-slice_get}
use Rattle.clause_base.specs.Repeats.{Repeats, all_steps, all_times, repeated}
use Rattle.clause_base.proofs.published.RepeatLemmas.{get_left, get_right, length_steps, length_repeated}
use Rattle.cdcl_defs.specs.State.{clause_at}
use Rattle.propagation.specs.declared.steps.Steps.{Steps}
use Rattle.propagation.specs.declared.visit.WatchState.{WatchState}
use Rattle.propagation.specs.own.Added.{IsTaken}
use Rattle.propagation.specs.own.Steps.{ArePlaced, AreStepped, IsPlaced}
use Rattle.propagation.proofs.published.Adds.{at_other}
use Rattle.propagation.proofs.Templates.{part_below, whole_long}

-- one more clause, which may have one more slot
pub stepped_add : (cl : List (List ℕ)) (k : List ℕ) (number codes : ℕ) (trail slots : List ℕ) (l : WatchState) (slots' : List ℕ) (l' : WatchState) (t : Steps)
    → IsTaken k number codes trail slots l slots' l' → AreStepped cl slots t → AreStepped (cl ++ k ∷ []) slots' t
stepped_add cl k number codes trail slots l slots' l' t taken i = record {
  within = omega (arith, i.within, length_push cl k);
  sized = i.sized;
  same = λ j h. i.same j h ∙ ap (λ (x : List ℕ). Some x) (sym (at_other cl k (t.before + j) (λ e. omega (arith, e, h, i.within))));
  long = long taken;
  placed = placed taken;
}
  where
    long : IsTaken k number codes trail slots l slots' l' → length t.of_slots.items ≤ length slots'
    long (inl a) = omega (arith, i.long, ap (λ (ss : List ℕ). length ss) a.slots_stay)
    long (inr a) = omega (arith, i.long, ap (λ (ss : List ℕ). length ss) a.slotted, length_push slots number)

    placed : IsTaken k number codes trail slots l slots' l' → ArePlaced t.before t.part.horizon t.size t.of_slots.items slots'
    placed (inl a) = subst (λ (ss : List ℕ). ArePlaced t.before t.part.horizon t.size t.of_slots.items ss) (sym a.slots_stay) i.placed
    placed (inr a) = λ s h.
        let e : get_or slots' s 0 ≡ get_or slots s 0 = ap (λ (ss : List ℕ). get_or ss s 0) a.slotted ∙ get_or_append_left slots (number ∷ []) 0 s (omega (arith, h, i.long)) in
        subst (λ (n : ℕ). IsPlaced t.before t.part.horizon t.size (get_or t.of_slots.items s 0) n) (sym e) (i.placed s h)

-- where the clause of a slot is
pub placed_at : (cl : List (List ℕ)) (slots : List ℕ) (t : Steps) (slot step number : ℕ) → AreStepped cl slots t → slot < length t.of_slots.items
    → step ≡ get_or t.of_slots.items slot 0 → number ≡ get_or slots slot 0 → IsPlaced t.before t.part.horizon t.size step number
placed_at cl slots t slot step number i h es en =
    subst (λ (n : ℕ). IsPlaced t.before t.part.horizon t.size step n) (sym en)
    (subst (λ (u : ℕ). IsPlaced t.before t.part.horizon t.size u (get_or slots slot 0)) (sym es) (i.placed slot h))

-- the clause that is read by its step and its place is that with its number
pub clause_of_step : (cl : List (List ℕ)) (slots : List ℕ) (t : Steps) (slot step number : ℕ) (clause : List ℕ) → AreStepped cl slots t → slot < length t.of_slots.items
    → step ≡ get_or t.of_slots.items slot 0 → number ≡ get_or slots slot 0
    → slice_get (all_steps t.part) (step * length t.part.step + (number - (t.before + step * t.size))) ≡ Some clause → clause ≡ clause_at cl number
clause_of_step cl slots t slot step number clause i h es en at =
    let placed = placed_at cl slots t slot step number i h es en in
    let place : ℕ = number - (t.before + step * t.size) in
    let below : step * t.size + place < t.part.horizon * t.size = part_below t.part.horizon t.size step place placed.inside (omega (arith, placed.first, placed.last)) in
    let whole : t.before + (step * t.size + place) ≡ number = omega (arith, placed.first) in
    let read : slice_get (all_steps t.part) (step * t.size + place) ≡ Some clause =
    subst (λ (s : ℕ). slice_get (all_steps t.part) (step * s + place) ≡ Some clause) (sym (i.sized step placed.inside)) at in
    ap (λ (o : Option (List ℕ)). unwrap_or o []) (sym read ∙ i.same (step * t.size + place) below) ∙ ap (λ (n : ℕ). clause_at cl n) whole

-- the clauses of the steps stand after those that come before them
pub steps_same : (told after cl : List (List ℕ)) (r : Repeats) (before k : ℕ) → cl ≡ told ++ (repeated r ++ after) → before ≡ length told → k < r.horizon * length r.step
    → slice_get (all_steps r) k ≡ Some (clause_at cl (before + k))
steps_same told after cl r before k e b h =
    let inside : k < length (all_steps r) = omega (arith, h, length_steps r) in
    let within : k < length (repeated r) = omega (arith, h, length_repeated r) in
    let at : slice_get cl (before + k) ≡ slice_get (all_steps r) k =
    ap (λ (cs : List (List ℕ)). slice_get cs (before + k)) e
    ∙ get_right told (repeated r ++ after) (before + k) k (omega (arith, b))
    ∙ get_left (repeated r) after k within
    ∙ get_left (all_steps r) (all_times r) k inside in
    slice_get-get_or (all_steps r) k [] inside
    ∙ ap (λ (x : List ℕ). Some x) (sym (ap (λ (o : Option (List ℕ)). unwrap_or o []) at ∙ unwrap_or-slice_get (all_steps r) k []))

-- parts of one size, if there are any
pub product_same : (n size long : ℕ) → ((k : ℕ) → k < n → size ≡ long) → n * size ≡ n * long
product_same zero size long s = omega arith
product_same (suc n) size long s = ap (λ (x : ℕ). suc n * x) (s n (omega arith))

-- a step has few clauses, if there is one
pub size_same : (told after cl : List (List ℕ)) (r part : Repeats) (list : List (List ℕ)) (all size : ℕ) → cl ≡ told ++ (repeated r ++ after) → length cl ≤ 1073741824
    → part ≡ r → list ≡ part.step → all ≡ length list → size ≡ min all 1073741824 → (k : ℕ) → k < r.horizon → size ≡ length r.step
size_same told after cl r part list all size e few p l a z k h =
    let once : 1 * length r.step ≤ r.horizon * length r.step = mul-le-mul_right (length r.step) (omega (arith, h)) in
    let own : all ≡ length r.step = a ∙ ap (λ (xs : List (List ℕ)). length xs) l ∙ ap (λ (x : Repeats). length x.step) p in
    omega (arith, once, own, z, few, whole_long told after cl r e)

pub steps_room : (told after cl : List (List ℕ)) (r part : Repeats) (before steps size : ℕ) → cl ≡ told ++ (repeated r ++ after) → length cl ≤ 1073741824
    → part ≡ r → before ≡ length told → steps ≡ part.horizon → ((k : ℕ) → k < r.horizon → size ≡ length r.step) → before + steps * size ≤ 1073741824
steps_room told after cl r part before steps size e few p b es s =
    let product : steps * size ≡ r.horizon * length r.step = ap (λ (n : ℕ). n * size) (es ∙ ap (λ (x : Repeats). x.horizon) p) ∙ product_same r.horizon size (length r.step) s in
    omega (arith, product, b, few, whole_long told after cl r e)

-- the clauses and the slots of a formula
pub stepped_of : (told after cl : List (List ℕ)) (r : Repeats) (slots : List ℕ) (t : Steps) (steps : ℕ) → cl ≡ told ++ (repeated r ++ after) → t.before ≡ length told
    → t.part ≡ r → steps ≡ t.part.horizon → ((k : ℕ) → k < r.horizon → t.size ≡ length r.step) → length t.of_slots.items ≤ length slots
    → ArePlaced t.before steps t.size t.of_slots.items slots → AreStepped cl slots t
stepped_of told after cl r slots t steps e b p es s long placed =
    let product : r.horizon * t.size ≡ r.horizon * length r.step = product_same r.horizon t.size (length r.step) s in
    record {
      within = rw p (omega (arith, b, product, whole_long told after cl r e));
      sized = rw p s;
      same = rw p (λ k h. steps_same told after cl r t.before k e b (omega (arith, h, product)));
      long = long;
      placed = subst (λ (n : ℕ). ArePlaced t.before n t.size t.of_slots.items slots) es placed;
    }
