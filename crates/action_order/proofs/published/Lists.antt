use Rattle.std.proofs.Common.{arith, ◌≡◌, ◌==◌, ℕ, zero, suc, ◌+◌, ◌-◌, ◌<◌, ◌≤◌, List, [], ◌∷◌, ◌++◌, length, take, Bool, true, false, refl, sym, ap, ◌∙◌, subst, ◌⊎◌, inl, inr}
use Rattle.std.specs.Prelude.{nat_lt}
use Rattle.std.proofs.lemmas.List.{take_more, get_or_append_left, get_or_push, length_push}
use Rattle.std.proofs.lemmas.Bool.{cases_lt}
use Rattle.std.proofs.lemmas.Bool.Decides.{nat_tests}
use Rattle.gt_core.specs.Literal.{is_in, range, range_from}
use Rattle.gt_core.specs.Published.{Reaches, here, along, Pairwise}
use Rattle.gt_core.proofs.published.Basics.{each_at, each_from, and_split, or_split, or_left, or_right, same_test, test_same}
use Rattle.gt_core.proofs.published.Literals.{in_among, among_in, in_split, in_left, in_right}
use Rattle.std.proofs.Math.Seq.{take-length}
use Rattle.action_order.specs.own.Graph.{item}
use Rattle.action_order.specs.own.Walk.{IsLast, ends_past}

-- Lists with one more element at their end, and paths.

pub push_old : (xs : List ℕ) (y p : ℕ) → p < length xs → item (xs ++ y ∷ []) p ≡ item xs p
push_old xs y p lt = get_or_append_left xs (y ∷ []) 0 p lt

pub push_new : (xs : List ℕ) (y p : ℕ) → p ≡ length xs → item (xs ++ y ∷ []) p ≡ y
push_new xs y p e = get_or_push xs y 0 p (sym e)

-- a place of a list with one more element
pub place_cases : (xs : List ℕ) (y p : ℕ) → p < length (xs ++ y ∷ []) → (p < length xs) ⊎ (p ≡ length xs)
place_cases xs y p lt =
    let l = length_push xs y in
    elim (cases_lt p (length xs)) [ inl h ↦ inl h | inr h ↦ inr (omega arith) ]

pub in_push : (xs : List ℕ) (y x : ℕ) → is_in (xs ++ y ∷ []) x ≡ true → (is_in xs x ≡ true) ⊎ (x ≡ y)
in_push xs y x h =
    elim (in_split xs (y ∷ []) x h) [
      | inl i ↦ inl i
      | inr i ↦ elim (or_split (y == x) false i) [ inl e ↦ inr (sym (test_same y x e)) | inr e ↦ absurd (let f : false ≡ true = e in cc) ]
    ]

pub in_push_new : (xs : List ℕ) (y : ℕ) → is_in (xs ++ y ∷ []) y ≡ true
in_push_new xs y = in_right xs (y ∷ []) y (or_left (y == y) false (same_test y y refl))

pub in_push_old : (xs : List ℕ) (y x : ℕ) → is_in xs x ≡ true → is_in (xs ++ y ∷ []) x ≡ true
in_push_old xs y x h = in_left xs (y ∷ []) x h

-- rising lists
abbrev pub Rising : List ℕ → Type 0
Rising xs = Pairwise (λ a b. a < b) xs

pub rising_push : (xs : List ℕ) (y : ℕ) → Rising xs → ((x : ℕ) → is_in xs x ≡ true → x < y) → Rising (xs ++ y ∷ [])
rising_push [] y r h = (tt, tt)
rising_push (x ∷ xs) y r h = (
  each_from _ (xs ++ y ∷ []) (λ z i. elim (in_push xs y z (among_in _ z i)) [
    | inl k ↦ each_at (λ b. x < b) xs z r.0 (in_among xs z k)
    | inr e ↦ let lt = h x (or_left (x == x) (is_in xs x) (same_test x x refl)) in omega arith
  ]),
  rising_push xs y r.1 (λ z k. h z (or_right (x == z) (is_in xs z) k)),
)

pub rising_front : (xs : List ℕ) (y : ℕ) → Rising (xs ++ y ∷ []) → Rising xs
rising_front [] y r = tt
rising_front (x ∷ xs) y r =
    (each_from _ xs (λ z i. each_at (λ b. x < b) (xs ++ y ∷ []) z r.0 (in_among _ z (in_push_old xs y z (among_in xs z i)))), rising_front xs y r.1)

pub rising_last : (xs : List ℕ) (y x : ℕ) → Rising (xs ++ y ∷ []) → is_in xs x ≡ true → x < y
rising_last [] y x r h = absurd (let f : false ≡ true = h in cc)
rising_last (z ∷ xs) y x r h =
    elim (or_split (z == x) (is_in xs x) h) [
      | inl e ↦
          let s = test_same z x e in
          let lt : z < y = each_at (λ b. z < b) (xs ++ y ∷ []) y r.0 (in_among _ y (in_push_new xs y)) in omega arith
      | inr k ↦ rising_last xs y x r.1 k
    ]

-- paths
pub reaches_more : (edge : ℕ → ℕ → Bool) (a b c : ℕ) → Reaches edge a b → Reaches edge b c → Reaches edge a c
reaches_more edge a b c (here x) q = q
reaches_more edge a b c (along x y z e p) q = along x y c e (reaches_more edge y b c p q)

pub reaches_edge : (edge : ℕ → ℕ → Bool) (a b : ℕ) → edge a b ≡ true → Reaches edge a b
reaches_edge edge a b e = along a b b e (here b)

-- where a number stands in a list
pub record Place (xs : List ℕ) (x : ℕ) : Type 0 where
  pub place : ℕ
  pub within : place < length xs
  pub is : item xs place ≡ x

pub place_of : (xs : List ℕ) (x : ℕ) → is_in xs x ≡ true → Place xs x
place_of [] x h = absurd (let f : false ≡ true = h in cc)
place_of (y ∷ xs) x h =
    elim (or_split (y == x) (is_in xs x) h) [
      | inl e ↦ record { place = 0; within = omega arith; is = test_same y x e }
      | inr k ↦ let r = place_of xs x k in record { place = suc r.place; within = let w = r.within in omega arith; is = r.is }
    ]

pub in_at : (xs : List ℕ) (i : ℕ) → i < length xs → is_in xs (item xs i) ≡ true
in_at [] i lt = absurd (omega arith)
in_at (x ∷ xs) zero lt = or_left (x == x) _ (same_test x x refl)
in_at (x ∷ xs) (suc i) lt = or_right (x == item xs i) (is_in xs (item xs i)) (in_at xs i (omega arith))

-- a list as its front and its last element
pub front_last : (xs : List ℕ) (x : ℕ) → IsLast xs x → xs ≡ take (length xs - 1) xs ++ x ∷ []
front_last xs x l =
    let some = l.some in
    let all : (length xs - 1) + 1 ≡ length xs = omega arith in
    let lt : length xs - 1 < length xs = omega arith in
    sym (take-length xs) ∙ ap (λ (n : ℕ). take n xs) (sym all) ∙ take_more xs (length xs - 1) 0 lt ∙ ap (λ (y : ℕ). take (length xs - 1) xs ++ y ∷ []) l.is

-- where a rising list does not end past a number, none of it is
pub none_past : (xs : List ℕ) (to : ℕ) → Rising xs → ends_past to xs ≡ false → (s : ℕ) → is_in xs s ≡ true → s ≤ to
none_past xs to r e s i = elim (cases_lt 0 (length xs)) [
  | inl some ↦
      let last : item xs (length xs - 1) ≤ to = below some e in
      let is = front_last xs (item xs (length xs - 1)) (record { some = some; is = refl }) in
      elim (in_push (take (length xs - 1) xs) (item xs (length xs - 1)) s (subst (λ (ys : List ℕ). is_in ys s ≡ true) is i)) [
        | inl k ↦ let lt = rising_last (take (length xs - 1) xs) (item xs (length xs - 1)) s (subst (λ (ys : List ℕ). Rising ys) is r) k in omega arith
        | inr s_is ↦ omega arith
      ]
  | inr none ↦ let p = place_of xs s i in let w = p.within in absurd (omega arith)
]
  where
    below : 0 < length xs → ends_past to xs ≡ false → item xs (length xs - 1) ≤ to
    below some no_end = grind (arith, nat_tests)

-- where a list ends past a number, its last element is above it
pub last_past : (xs : List ℕ) (to : ℕ) → ends_past to xs ≡ true → IsLast xs (item xs (length xs - 1)) × (to < item xs (length xs - 1))
last_past xs to e =
    let x = and_split (nat_lt 0 (length xs)) (nat_lt to (item xs (length xs - 1))) e in
    let a : nat_lt 0 (length xs) ≡ true = x.0 in
    let b : nat_lt to (item xs (length xs - 1)) ≡ true = x.1 in
    let some : 0 < length xs = grind (arith, nat_tests) in
    let more : to < item xs (length xs - 1) = grind (arith, nat_tests) in
    (record { some = some; is = refl }, more)

-- the last element of a rising list is its greatest
pub last_greatest : (xs : List ℕ) (x : ℕ) → Rising xs → IsLast xs x → (y : ℕ) → is_in xs y ≡ true → y ≤ x
last_greatest xs x r l y i =
    let is = front_last xs x l in
    elim (in_push (take (length xs - 1) xs) x y (subst (λ (ys : List ℕ). is_in ys y ≡ true) is i)) [
      | inl k ↦ let lt = rising_last (take (length xs - 1) xs) x y (subst (λ (ys : List ℕ). Rising ys) is r) k in omega arith
      | inr e ↦ omega arith
    ]

pub last_in : (xs : List ℕ) (x : ℕ) → IsLast xs x → is_in xs x ≡ true
last_in xs x l = subst (λ (ys : List ℕ). is_in ys x ≡ true) (sym (front_last xs x l)) (in_push_new (take (length xs - 1) xs) x)

-- one more number at the end of a range
pub range_push : (n first : ℕ) → range_from first (suc n) ≡ range_from first n ++ (first + n) ∷ []
range_push zero first = let z : first + 0 ≡ first = omega arith in rw z refl
range_push (suc n) first =
    let e : (first + 1) + n ≡ first + suc n = omega arith in
    ap (λ (xs : List ℕ). first ∷ xs) (range_push n (first + 1) ∙ ap (λ (y : ℕ). range_from (first + 1) n ++ y ∷ []) e)

pub range_more : (n : ℕ) → range (n + 1) ≡ range n ++ n ∷ []
range_more n = let z : 0 + n ≡ n = omega arith in let s : n + 1 ≡ suc n = omega arith in ap range s ∙ range_push n 0 ∙ ap (λ (y : ℕ). range n ++ y ∷ []) z
