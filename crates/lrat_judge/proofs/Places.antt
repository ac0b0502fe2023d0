-- The places of ids: those from 1 on without a gap, and those that follow.
use Rattle.std.proofs.Common.{arith, ◌≡◌, ℕ, zero, suc, ◌+◌, ◌-◌, ◌<◌, ◌≤◌, inl, inr, List, [], ◌∷◌, ◌++◌, length, get_or, Some, refl, ap, sym, ◌∙◌, subst, append-nil}
use Rattle.std.specs.List.{range_with_len, slice_get}
use Rattle.std.proofs.Math.ListN.{get_or-append}
use Rattle.std.proofs.lemmas.Bool.{cases_lt}
use Rattle.std.proofs.lemmas.List.{get_or-append-add, length-append, length_push}
use Rattle.std.proofs.lemmas.List.FromFn.{length-range_with_len, get_or-range_with_len}
use Rattle.std.proofs.lemmas.Option.{slice_get-get_or, slice_get_within, get_or_from_slice_get}
use Rattle.lrat_judge.specs.Ids.{Rises, Follow}

abbrev pub ids : ℕ → List ℕ → List ℕ
ids d later = range_with_len 1 d ++ later

long : (d : ℕ) (later : List ℕ) → length (ids d later) ≡ d + length later
long d later = length-append (range_with_len 1 d) later ∙ ap (λ (n : ℕ). n + length later) (length-range_with_len 1 d)

dense_at : (d : ℕ) (later : List ℕ) (k : ℕ) → k < d → get_or (ids d later) k 0 ≡ k + 1
dense_at d later k h =
    let l = length-range_with_len 1 d in
    let within : k < length (range_with_len 1 d) = omega (arith, l) in
    let same : 1 + k ≡ k + 1 = omega arith in
    get_or-append (range_with_len 1 d) later 0 k within ∙ get_or-range_with_len 1 d k 0 h ∙ same

later_at : (d : ℕ) (later : List ℕ) (k : ℕ) → get_or (ids d later) (d + k) 0 ≡ get_or later k 0
later_at d later k = ap (λ (n : ℕ). get_or (ids d later) (n + k) 0) (sym (length-range_with_len 1 d)) ∙ get_or-append-add (range_with_len 1 d) later k 0

at_place : (xs : List ℕ) (k x : ℕ) → k < length xs → get_or xs k 0 ≡ x → slice_get xs k ≡ Some x
at_place xs k x h e = slice_get-get_or xs k 0 h ∙ ap (λ (y : ℕ). Some y) e

-- where an id is found
data Found (d : ℕ) (later : List ℕ) (place id : ℕ) : Type 0 where
  early : place < d → id ≡ place + 1 → Found d later place id
  late : (k : ℕ) → place ≡ d + k → k < length later → get_or later k 0 ≡ id → Found d later place id

found : (d : ℕ) (later : List ℕ) (place id : ℕ) → place < length (ids d later) → get_or (ids d later) place 0 ≡ id → Found d later place id
found d later place id within here = elim (cases_lt place d) [
  | inl h ↦ early h (sym here ∙ dense_at d later place h)
  | inr h ↦
      let k = place - d in
      let e : place ≡ d + k = omega arith in
      let l = long d later in
      late k e (omega (arith, within, l, e)) (sym (later_at d later k) ∙ ap (λ (n : ℕ). get_or (ids d later) n 0) (sym e) ∙ here)
]

at_found : (d : ℕ) (later whole : List ℕ) (place id : ℕ) → ids d later ≡ whole → slice_get whole place ≡ Some id → Found d later place id
at_found d later whole place id w e =
    let e' : slice_get (ids d later) place ≡ Some id = ap (λ (xs : List ℕ). slice_get xs place) w ∙ e in
    found d later place id (slice_get_within (ids d later) place id e') (get_or_from_slice_get (ids d later) place id 0 e')

-- no id is 0
pub zero_nowhere : (d : ℕ) (later whole : List ℕ) (id : ℕ) → ids d later ≡ whole → Follow d later → id ≡ 0 → (place : ℕ) → slice_get whole place ≡ Some id → ⊥
zero_nowhere d later whole id w f z place e = elim (at_found d later whole place id w e) [
  | early h s ↦ let none : ⊥ = omega (arith, z, s) in none
  | late k p h g ↦ let above = f.above k h in let none : ⊥ = omega (arith, z, g, above) in none
]

-- an id above those without a gap is where it is among those that follow, or nowhere
pub nowhere : (d : ℕ) (later whole : List ℕ) (id : ℕ) → ids d later ≡ whole → d < id → ((k : ℕ) → slice_get later k ≡ Some id → ⊥) → (place : ℕ) → slice_get whole place ≡ Some id → ⊥
nowhere d later whole id w less none place e = elim (at_found d later whole place id w e) [
  | early h s ↦ let never : ⊥ = omega (arith, less, h, s) in never
  | late k p h g ↦ none k (at_place later k id h g)
]

pub some_dense : (d : ℕ) (later whole : List ℕ) (id : ℕ) → ids d later ≡ whole → 0 < id → id ≤ d → slice_get whole (id - 1) ≡ Some id
some_dense d later whole id w h most =
    let l = long d later in
    let less : id - 1 < d = omega (arith, h, most) in
    let same : (id - 1) + 1 ≡ id = omega (arith, h) in
    ap (λ (xs : List ℕ). slice_get xs (id - 1)) (sym w) ∙ at_place (ids d later) (id - 1) id (omega (arith, l, less)) (dense_at d later (id - 1) less ∙ same)

pub some_later : (d : ℕ) (later whole : List ℕ) (id place : ℕ) → ids d later ≡ whole → slice_get later place ≡ Some id → slice_get whole (d + place) ≡ Some id
some_later d later whole id place w e =
    let l = long d later in
    let h = slice_get_within later place id e in
    ap (λ (xs : List ℕ). slice_get xs (d + place)) (sym w)
    ∙ at_place (ids d later) (d + place) id (omega (arith, l, h)) (later_at d later place ∙ get_or_from_slice_get later place id 0 e)

pub below_id : (d : ℕ) (later : List ℕ) (id place : ℕ) → Follow d later → slice_get later place ≡ Some id → d + place < id
below_id d later id place f e =
    let above = f.above place (slice_get_within later place id e) in
    let here = get_or_from_slice_get later place id 0 e in
    omega (arith, above, here)

-- the last id
pub most_dense : (d : ℕ) (later whole : List ℕ) → ids d later ≡ whole → length later ≡ 0 → (k : ℕ) → k < length whole → get_or whole k 0 ≤ d
most_dense d later whole w n k h = subst (λ (xs : List ℕ). k < length xs → get_or xs k 0 ≤ d) w (λ within. elim (found d later k (get_or (ids d later) k 0) within refl) [
  | early less s ↦ omega (arith, less, s)
  | late j p less g ↦ let none : ⊥ = omega (arith, n, less) in absurd none
]) h

pub is_dense : (d : ℕ) (later whole : List ℕ) → ids d later ≡ whole → 0 < d → (k : ℕ) × (k < length whole) × (get_or whole k 0 ≡ d)
is_dense d later whole w h =
    let l = long d later in
    let less : d - 1 < d = omega (arith, h) in
    let same : (d - 1) + 1 ≡ d = omega (arith, h) in
    subst (λ (xs : List ℕ). (k : ℕ) × (k < length xs) × (get_or xs k 0 ≡ d)) w (d - 1, omega (arith, l, less), dense_at d later (d - 1) less ∙ same)

pub most_later : (d : ℕ) (later whole : List ℕ) (n id : ℕ) → ids d later ≡ whole → Follow d later → n ≡ length later - 1 → n < length later → id ≡ get_or later n 0 → (k : ℕ) → k < length whole → get_or whole k 0 ≤ id
most_later d later whole n id w f last within e k h = subst (λ (xs : List ℕ). k < length xs → get_or xs k 0 ≤ id) w (λ inside. elim (found d later k (get_or (ids d later) k 0) inside refl) [
  | early less s ↦ let above = f.above n within in omega (arith, less, s, above, e)
  | late j p less g ↦ elim (cases_lt j n) [
    | inl before ↦ let rising = f.rising j n before within in omega (arith, rising, g, e)
    | inr after ↦ let same : j ≡ n = omega (arith, after, less, last) in let here = ap (λ (m : ℕ). get_or later m 0) same in omega (arith, here, g, e)
  ]
]) h

pub is_later : (d : ℕ) (later whole : List ℕ) (n id : ℕ) → ids d later ≡ whole → n < length later → id ≡ get_or later n 0 → (k : ℕ) × (k < length whole) × (get_or whole k 0 ≡ id)
is_later d later whole n id w within e =
    let l = long d later in
    subst (λ (xs : List ℕ). (k : ℕ) × (k < length xs) × (get_or xs k 0 ≡ id)) w (d + n, omega (arith, l, within), later_at d later n ∙ sym e)

-- one more id
range_more : (a n : ℕ) → range_with_len a (n + 1) ≡ range_with_len a n ++ (a + n) ∷ []
range_more a zero = let e : a + 0 ≡ a = omega arith in ap (λ (x : ℕ). x ∷ []) (sym e)
range_more a (suc n) =
    let one : suc n + 1 ≡ suc (n + 1) = omega arith in
    let next : (a + 1) + n ≡ a + suc n = omega arith in
    ap (λ (m : ℕ). range_with_len a m) one
    ∙ ap (λ (xs : List ℕ). a ∷ xs) (range_more (a + 1) n ∙ ap (λ (x : ℕ). range_with_len (a + 1) n ++ x ∷ []) next)

empty : (xs : List ℕ) → length xs ≡ 0 → xs ≡ []
empty [] e = refl
empty (x ∷ xs) e = absurd (let never : ⊥ = omega (arith, e) in never)

pub added_dense : (d : ℕ) (later whole : List ℕ) (id : ℕ) → ids d later ≡ whole → length later ≡ 0 → id ≡ d + 1 → ids id later ≡ whole ++ id ∷ []
added_dense d later whole id w n e =
    let none = empty later n in
    let next : 1 + d ≡ id = omega (arith, e) in
    let before : range_with_len 1 d ≡ whole = sym (append-nil (range_with_len 1 d)) ∙ ap (λ (xs : List ℕ). range_with_len 1 d ++ xs) (sym none) ∙ w in
    ap (λ (xs : List ℕ). range_with_len 1 id ++ xs) none
    ∙ append-nil (range_with_len 1 id)
    ∙ ap (λ (n : ℕ). range_with_len 1 n) e
    ∙ range_more 1 d
    ∙ ap (λ (x : ℕ). range_with_len 1 d ++ x ∷ []) next
    ∙ ap (λ (xs : List ℕ). xs ++ id ∷ []) before

last_at : (xs : List ℕ) (x : ℕ) → get_or (xs ++ x ∷ []) (length xs) 0 ≡ x
last_at [] x = refl
last_at (y ∷ xs) x = last_at xs x

pub follow_more : (d : ℕ) (later whole more : List ℕ) (id : ℕ) → ids d later ≡ whole → Follow d later → Rises id whole → more ≡ later ++ id ∷ [] → Follow d more
follow_more d later whole more id w f r m = subst (λ (xs : List ℕ). Follow d xs) (sym m) (record { rising = rising; above = above })
  where
    n : length (later ++ id ∷ []) ≡ length later + 1
    n = length_push later id

    below : (k : ℕ) → k < length later → get_or later k 0 < id
    below k h =
        let l = long d later in
        let place : d + k < length whole = subst (λ (xs : List ℕ). d + k < length xs) w (omega (arith, l, h)) in
        let less = r.above (d + k) place in
        let here : get_or whole (d + k) 0 ≡ get_or later k 0 = ap (λ (xs : List ℕ). get_or xs (d + k) 0) (sym w) ∙ later_at d later k in
        omega (arith, less, here)

    rising : (i j : ℕ) → i < j → j < length (later ++ id ∷ []) → get_or (later ++ id ∷ []) i 0 < get_or (later ++ id ∷ []) j 0
    rising i j less within = elim (cases_lt j (length later)) [
      | inl h ↦
          let first = get_or-append later (id ∷ []) 0 i (omega (arith, less, h)) in
          let second = get_or-append later (id ∷ []) 0 j h in
          let before = f.rising i j less h in
          omega (arith, first, second, before)
      | inr h ↦
          let last : j ≡ length later = omega (arith, h, within, n) in
          let small : i < length later = omega (arith, less, last) in
          let first = get_or-append later (id ∷ []) 0 i small in
          let second : get_or (later ++ id ∷ []) j 0 ≡ id = ap (λ (k : ℕ). get_or (later ++ id ∷ []) k 0) last ∙ last_at later id in
          let before = below i small in
          omega (arith, first, second, before)
    ]

    end : (k : ℕ) → k ≡ length later → d + k < id
    end k e = elim (cases_lt 0 k) [
      | inl h ↦
          let small : k - 1 < length later = omega (arith, h, e) in
          let before = below (k - 1) small in
          let past = f.above (k - 1) small in
          omega (arith, before, past, h)
      | inr h ↦ elim (cases_lt 0 d) [
        | inl some ↦
            let l = long d later in
            let place : d - 1 < length whole = subst (λ (xs : List ℕ). d - 1 < length xs) w (omega (arith, l, some)) in
            let less = r.above (d - 1) place in
            let here : get_or whole (d - 1) 0 ≡ (d - 1) + 1 = ap (λ (xs : List ℕ). get_or xs (d - 1) 0) (sym w) ∙ dense_at d later (d - 1) (omega (arith, some)) in
            omega (arith, less, here, h, some)
        | inr none ↦ let positive = r.positive in omega (arith, h, none, positive)
      ]
    ]

    above : (k : ℕ) → k < length (later ++ id ∷ []) → d + k < get_or (later ++ id ∷ []) k 0
    above k within = elim (cases_lt k (length later)) [
      | inl h ↦
          let here = get_or-append later (id ∷ []) 0 k h in
          let before = f.above k h in
          omega (arith, here, before)
      | inr h ↦
          let last : k ≡ length later = omega (arith, h, within, n) in
          let here : get_or (later ++ id ∷ []) k 0 ≡ id = ap (λ (m : ℕ). get_or (later ++ id ∷ []) m 0) last ∙ last_at later id in
          let past = end k last in
          omega (arith, here, past)
    ]

-- ids that rise are apart
pub searched_none : (ids : List ℕ) (id : ℕ) → ((i : ℕ) × ((k : ℕ) → k < i → get_or ids k 0 < id) × ((k : ℕ) → i ≤ k → k < length ids → id < get_or ids k 0)) → (place : ℕ) → slice_get ids place ≡ Some id → ⊥
searched_none ids id s place e =
    let within = slice_get_within ids place id e in
    let here = get_or_from_slice_get ids place id 0 e in
    elim (cases_lt place s.0) [
      | inl h ↦ let before = s.1 place h in let never : ⊥ = omega (arith, before, here) in never
      | inr h ↦ let after = s.2 place h within in let never : ⊥ = omega (arith, after, here) in never
    ]

pub not_falling : (ids : List ℕ) → ((i j : ℕ) → i < j → j < length ids → get_or ids i 0 < get_or ids j 0) → (i j : ℕ) → i ≤ j → j < length ids → get_or ids i 0 ≤ get_or ids j 0
not_falling ids r i j h within = elim (cases_lt i j) [
  | inl less ↦ let rising = r i j less within in omega (arith, rising)
  | inr more ↦ let same : i ≡ j = omega (arith, h, more) in let here = ap (λ (k : ℕ). get_or ids k 0) same in omega (arith, here)
]

-- each id is below the next
pub all_rising : (d : ℕ) (later whole : List ℕ) → ids d later ≡ whole → Follow d later → (i j : ℕ) → i < j → j < length whole → get_or whole i 0 < get_or whole j 0
all_rising d later whole w f i j less within = subst (λ (xs : List ℕ). j < length xs → get_or xs i 0 < get_or xs j 0) w (λ inside. elim (found d later j (get_or (ids d later) j 0) inside refl) [
  | early h s ↦ let first = dense_at d later i (omega (arith, less, h)) in omega (arith, first, s, less)
  | late k p h g ↦ elim (found d later i (get_or (ids d later) i 0) (omega (arith, less, inside)) refl) [
    | early h1 s1 ↦ let above = f.above k h in omega (arith, above, g, s1, h1)
    | late k1 p1 h1 g1 ↦ let rising = f.rising k1 k (omega (arith, p, p1, less)) h in omega (arith, rising, g, g1)
  ]
]) within
