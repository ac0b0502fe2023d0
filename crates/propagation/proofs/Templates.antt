-- The clauses of a formula by the part that they are in: those of a step, or of a time, have as many literals as those of the
-- template.
use Rattle.std.proofs.Common.{arith, ◌≡◌, ◌≢◌, ◌==◌, ℕ, ◌+◌, ◌*◌, ◌<◌, ◌≤◌, List, [], ◌∷◌, ◌++◌, length, length-append, map, get_or, Bool, true}
use Rattle.std.proofs.Common.{false, refl, sym, ap, ◌∙◌, subst, Option, Some, None, unwrap_or}
use Rattle.std.specs.List.{slice_get}
use Rattle.std.specs.Option.{option_map}
use Rattle.std.proofs.Math.Nat.{mul-le-mul_right}
use Rattle.std.proofs.lemmas.List.{length-map, length_push, get_or_push, get_or_append_left}
use Rattle.std.proofs.lemmas.Option.{slice_get-map}
use Rattle.clause_base.specs.Repeats.{Repeats, moved_code, all_steps, all_times, repeated}
use Rattle.clause_base.proofs.published.RepeatLemmas.{get_left, get_right, length_steps, length_repeated, step_at, time_at}
use Rattle.cdcl_defs.specs.State.{clause_at}
use Rattle.propagation.specs.own.Given.{AreRising, IsBeside}
use Rattle.propagation.specs.own.Visit.{AreSlotsBelow}
use Rattle.propagation.proofs.published.Assigns.{equal_of, apart_of}

-- a clause whose literals are moved has as many
moved_long : (f : ℕ → ℕ) (list : List (List ℕ)) (j : ℕ) → length (unwrap_or (slice_get (map (map f) list) j) []) ≡ length (clause_at list j)
moved_long f list j = ap (λ (o : Option (List ℕ)). length (unwrap_or o [])) (slice_get-map (map f) list j) ∙ by (slice_get list j)
  where
    by : (o : Option (List ℕ)) → length (unwrap_or (option_map (map f) o) []) ≡ length (unwrap_or o [])
    by None = refl
    by (Some xs) = length-map xs f

-- a part is before the end of all
pub part_below : (parts size t j : ℕ) → t < parts → j < size → t * size + j < parts * size
part_below parts size t j h g =
    let k : (t + 1) * size ≤ parts * size = mul-le-mul_right size (omega (arith, h)) in
    let d : (t + 1) * size ≡ t * size + size = omega arith in
    omega (arith, k, d, g)

pub part_end : (parts size t : ℕ) → t < parts → t * size + size ≤ parts * size
part_end parts size t h =
    let k : (t + 1) * size ≤ parts * size = mul-le-mul_right size (omega (arith, h)) in
    let d : (t + 1) * size ≡ t * size + size = omega arith in
    omega (arith, k, d)

-- how many there are
pub whole_long : (told after store : List (List ℕ)) (r : Repeats) → store ≡ told ++ (repeated r ++ after)
    → length store ≡ length told + (r.horizon * length r.step + (r.horizon + 1) * length r.time) + length after
whole_long told after store r e =
    let a = ap (λ (xs : List (List ℕ)). length xs) e in
    let b = length-append told (repeated r ++ after) in
    let c = length-append (repeated r) after in
    omega (arith, a, b, c, length_repeated r)

pub told_two : (told after store : List (List ℕ)) (r : Repeats) (places : List ℕ) (count first : ℕ) → store ≡ told ++ (repeated r ++ after)
    → first ≡ 0 → count ≡ length told → ((j : ℕ) → IsBeside places count j → length (clause_at told j) ≡ 2) → (j : ℕ) → IsBeside places count j
    → length (clause_at store (first + j)) ≡ 2
told_two told after store r places count first e z size two j h =
    let i : first + j ≡ j = omega (arith, z) in
    let in_range : j < length told = omega (arith, h.below, size) in
    ap (λ (n : ℕ). length (clause_at store n)) i
    ∙ ap (λ (cs : List (List ℕ)). length (clause_at cs j)) e
    ∙ ap (λ (o : Option (List ℕ)). length (unwrap_or o [])) (get_left told (repeated r ++ after) j in_range)
    ∙ two j h

pub steps_two : (told after store : List (List ℕ)) (r : Repeats) (places : List ℕ) (count first : ℕ) → store ≡ told ++ (repeated r ++ after)
    → first ≡ length told → count ≡ length r.step → ((j : ℕ) → IsBeside places count j → length (clause_at r.step j) ≡ 2) → (t j : ℕ) → t < r.horizon
    → IsBeside places count j → length (clause_at store (first + (t * count + j))) ≡ 2
steps_two told after store r places count first e f size two t j ht h =
    let k = t * length r.step + j in
    let in_range : j < length r.step = omega (arith, h.below, size) in
    let below : k < r.horizon * length r.step = part_below r.horizon (length r.step) t j ht in_range in
    ap (λ (n : ℕ). length (clause_at store (first + (t * n + j)))) size
    ∙ ap (λ (cs : List (List ℕ)). length (clause_at cs (first + k))) e
    ∙ ap (λ (o : Option (List ℕ)). length (unwrap_or o [])) (get_right told (repeated r ++ after) (first + k) k (omega (arith, f)) ∙ get_left
    (repeated r) after k (omega (arith, below, length_repeated r)) ∙ get_left (all_steps r) (all_times r) k (omega (arith, below, length_steps r))
    ∙ step_at r t j ht in_range)
    ∙ moved_long (moved_code r.width (t * r.width) (r.horizon * r.width + t * r.facts)) r.step j
    ∙ two j h

pub times_two : (told after store : List (List ℕ)) (r : Repeats) (places : List ℕ) (count first : ℕ) → store ≡ told ++ (repeated r ++ after)
    → first ≡ length told + r.horizon * length r.step → count ≡ length r.time → ((j : ℕ) → IsBeside places count j → length (clause_at r.time j) ≡ 2)
    → (t j : ℕ) → t < r.horizon + 1 → IsBeside places count j → length (clause_at store (first + (t * count + j))) ≡ 2
times_two told after store r places count first e f size two t j ht h =
    let k = t * length r.time + j in
    let in_range : j < length r.time = omega (arith, h.below, size) in
    let below : k < (r.horizon + 1) * length r.time = part_below (r.horizon + 1) (length r.time) t j ht in_range in
    ap (λ (n : ℕ). length (clause_at store (first + (t * n + j)))) size
    ∙ ap (λ (cs : List (List ℕ)). length (clause_at cs (first + k))) e
    ∙ ap (λ (o : Option (List ℕ)). length (unwrap_or o [])) (get_right told (repeated r ++ after) (first + k) (r.horizon * length r.step + k)
    (omega (arith, f)) ∙ get_left (repeated r) after (r.horizon * length r.step + k) (omega (arith, below, length_repeated r)) ∙ get_right
    (all_steps r) (all_times r) (r.horizon * length r.step + k) k (omega (arith, length_steps r)) ∙ time_at r t j ht in_range)
    ∙ moved_long (moved_code 0 0 (r.horizon * r.width + t * r.facts)) r.time j
    ∙ two j h

pub after_two : (told after store : List (List ℕ)) (r : Repeats) (places : List ℕ) (count first : ℕ) → store ≡ told ++ (repeated r ++ after)
    → first ≡ length told + r.horizon * length r.step + (r.horizon + 1) * length r.time
    → ((j : ℕ) → IsBeside places count j → length (clause_at after j) ≡ 2) → (j : ℕ) → IsBeside places count j
    → length (clause_at store (first + j)) ≡ 2
after_two told after store r places count first e f two j h =
    let k = r.horizon * length r.step + (r.horizon + 1) * length r.time + j in
    ap (λ (cs : List (List ℕ)). length (clause_at cs (first + j))) e
    ∙ ap (λ (o : Option (List ℕ)). length (unwrap_or o [])) (get_right told (repeated r ++ after) (first + j) k (omega (arith, f)) ∙ get_right
    (repeated r) after k j (omega (arith, length_repeated r)))
    ∙ two j h

-- the list as it is read
pub twos_of : (list own : List (List ℕ)) (places : List ℕ) (count : ℕ) → list ≡ own
    → ((j : ℕ) → IsBeside places count j → length (clause_at list j) ≡ 2) → (j : ℕ) → IsBeside places count j → length (clause_at own j) ≡ 2
twos_of list own places count l two j h = ap (λ (cs : List (List ℕ)). length (clause_at cs j)) (sym l) ∙ two j h

-- the number after so many parts
pub after_parts : (next first parts size horizon long : ℕ) → next ≡ first + parts * size → parts ≡ horizon → size ≡ long → next ≡ first + horizon * long
after_parts next first parts size horizon long e p s =
    e ∙ ap (λ (n : ℕ). first + n * size) p ∙ ap (λ (n : ℕ). first + horizon * n) s

-- one more clause, which has two literals
pub twos_next : (list : List (List ℕ)) (places : List ℕ) (n : ℕ) → ((j : ℕ) → IsBeside places n j → length (clause_at list j) ≡ 2)
    → length (clause_at list n) ≡ 2 → (j : ℕ) → IsBeside places (n + 1) j → length (clause_at list j) ≡ 2
twos_next list places n old own j h = by (j == n) refl
  where
    by : (b : Bool) → (j == n) ≡ b → length (clause_at list j) ≡ 2
    by true f = subst (λ (k : ℕ). length (clause_at list k) ≡ 2) (sym (equal_of j n f)) own
    by false f =
        let ne : j ≢ n = apart_of j n f in
        old j (record {
          below = omega (arith, h.below, ne);
          apart = h.apart;
        })

-- or whose place is put to the others
beside_push : (places : List ℕ) (n j : ℕ) → IsBeside (places ++ n ∷ []) (n + 1) j → IsBeside places n j
beside_push places n j h = record {
  below = omega (arith, h.below, ne);
  apart = λ s g e. h.apart s (omega (arith, g, length_push places n)) (get_or_append_left places (n ∷ []) 0 s g ∙ e);
}
  where
    ne : j ≢ n
    ne e = h.apart (length places) (omega (arith, length_push places n)) (get_or_push places n 0 (length places) refl ∙ sym e)

pub twos_push : (list : List (List ℕ)) (places places' : List ℕ) (n : ℕ) → places' ≡ places ++ n ∷ []
    → ((j : ℕ) → IsBeside places n j → length (clause_at list j) ≡ 2) → (j : ℕ) → IsBeside places' (n + 1) j → length (clause_at list j) ≡ 2
twos_push list places places' n e old j h = old j (beside_push places n j (subst (λ (ps : List ℕ). IsBeside ps (n + 1) j) e h))

pub rising_push : (places places' : List ℕ) (n : ℕ) → places' ≡ places ++ n ∷ [] → AreSlotsBelow n places → AreRising places → AreRising places'
rising_push places places' n e below rising = subst (λ (ps : List ℕ). AreRising ps) (sym e) more
  where
    more : AreRising (places ++ n ∷ [])
    more i j h g = by (j == length places) refl
      where
        left : (k : ℕ) → k < length places → get_or (places ++ n ∷ []) k 0 ≡ get_or places k 0
        left k l = get_or_append_left places (n ∷ []) 0 k l

        by : (b : Bool) → (j == length places) ≡ b → get_or (places ++ n ∷ []) i 0 < get_or (places ++ n ∷ []) j 0
        by true f =
            let is : j ≡ length places = equal_of j (length places) f in
            let l : i < length places = omega (arith, h, is) in
            omega (arith, left i l, below i l, get_or_push places n 0 j (sym is))
        by false f =
            let ne : j ≢ length places = apart_of j (length places) f in
            let l : j < length places = omega (arith, g, length_push places n, ne) in
            let k : i < length places = omega (arith, h, l) in
            omega (arith, left i k, left j l, rising i j h l)
