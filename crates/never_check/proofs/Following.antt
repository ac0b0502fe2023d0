-- What follows from one literal more.
use Rattle.std.proofs.Common.{arith, ◌≡◌, ◌==◌, ◌<◌, ◌+◌, ℕ, zero, suc, List, [], ◌∷◌, length, take, drop, true, false, refl, ap, sym, ◌∙◌, subst, ◌⊎◌, inl, inr, Some, None, slice_get}
use Rattle.std.specs.Prelude.{slice_index, slice_index_or}
use Rattle.std.specs.List.{AllByRecursion}
use Rattle.std.proofs.lemmas.Bool.{cases_lt}
use Rattle.std.proofs.lemmas.List.{take_more, take-append-drop}
use Rattle.gt_core.specs.Literal.{opposite, is_in}
use Rattle.gt_core.specs.Interference.{has_clause}
use Rattle.gt_core.proofs.published.Basics.{Among, each_at, each_from, apart, same_test, test_same, or_split, or_none, cases}
use Rattle.gt_core.proofs.published.Literals.{opposite_twice, in_split, in_among, among_in, in_left}
use Rattle.implied_literals.specs.Known.{IsFull}
use Rattle.never_defs.specs.Propagation.{IsLeft}
use Rattle.never_check.specs.Follow.{HasAll, Obeys, IsGrown, IsContradiction, ObeysAll, IsFollowed}
use Rattle.never_check.proofs.Grown.{front_in, front_part, front_then, left_more, grown_then, grown_by}
use Rattle.never_check.proofs.Placed.{place_of, among_place}

-- ---- the clauses one by one

-- the clause with a number is one of the clauses
pub clause_among : (clauses : List (List ℕ)) (k : ℕ) (c : List ℕ) → slice_get clauses k ≡ Some c → Among c clauses × (slice_index_or clauses k [] ≡ c)
clause_among [] k c e = let z : None ≡ Some c = e in absurd (let w : ⊥ = cc in w)
clause_among (d ∷ clauses) zero c e = let z : Some d ≡ Some c = e in let s : d ≡ c = cc in (inl (sym s), s)
clause_among (d ∷ clauses) (suc k) c e = let r = clause_among clauses k c e in (inr r.0, r.1)

-- a clause has a number
pub clause_number : (clauses : List (List ℕ)) (c : List ℕ) → Among c clauses → (k : ℕ) × (k < length clauses) × (slice_index_or clauses k [] ≡ c)
clause_number [] c a = absurd a
clause_number (d ∷ clauses) c (inl s) = (0, omega arith, sym s)
clause_number (d ∷ clauses) c (inr a) = let r = clause_number clauses c a in (suc r.0, omega arith, r.2)

module _ (clauses : List (List ℕ)) (old mid : List ℕ) (grown : IsGrown (λ set. AllByRecursion (Obeys set) clauses) old mid) (c : List ℕ) (among : Among c clauses) where
  pub clauses_clash : IsContradiction (λ set. Obeys set c) mid → IsContradiction (λ set. AllByRecursion (Obeys set) clauses) old
  clauses_clash k = λ set all has. k set (each_at (Obeys set) clauses c all among) (grown.sound set all has)

  pub clauses_grown : (new : List ℕ) → IsGrown (λ set. Obeys set c) mid new → IsGrown (λ set. AllByRecursion (Obeys set) clauses) old new
  clauses_grown new g =
      grown_then (λ set. AllByRecursion (Obeys set) clauses) old mid new grown (grown_by (λ set. AllByRecursion (Obeys set) clauses) (λ set. Obeys set c) mid new (λ set all has. each_at (Obeys set) clauses c all among) g)

-- what was told of the numbers up to one, told of one more
pub told_more : (clauses : List (List ℕ)) (old mid new numbers : List ℕ) (i n : ℕ) (c : List ℕ) → n ≡ slice_index numbers i → slice_index_or clauses n [] ≡ c → HasAll (is_in mid) old → HasAll (is_in new) mid
    → ((j : ℕ) → j < i → (m : ℕ) → IsLeft (is_in old) (slice_index_or clauses (slice_index numbers j) []) m → is_in mid m ≡ true)
    → ((m : ℕ) → IsLeft (is_in mid) c m → is_in new m ≡ true)
    → (j : ℕ) → j < i + 1 → (m : ℕ) → IsLeft (is_in old) (slice_index_or clauses (slice_index numbers j) []) m → is_in new m ≡ true
told_more clauses old mid new numbers i n c at is more most told here j lt m left = elim (cases_lt j i) [
  | inl below ↦ most m (told j below m left)
  | inr le ↦
      let same : j ≡ i = omega arith in
      let e : slice_index_or clauses (slice_index numbers j) [] ≡ c = ap (λ (k : ℕ). slice_index_or clauses (slice_index numbers k) []) same ∙ ap (λ (k : ℕ). slice_index_or clauses k []) (sym at) ∙ is in
      here m (left_more (is_in old) (is_in mid) more c m (subst (λ (d : List ℕ). IsLeft (is_in old) d m) e left))
]

-- what was told of all listed numbers was told of each clause with the literal
pub told_each : (clauses : List (List ℕ)) (old new numbers : List ℕ)
    → ((j : ℕ) → j < length numbers → (m : ℕ) → IsLeft (is_in old) (slice_index_or clauses (slice_index numbers j) []) m → is_in new m ≡ true)
    → (k : ℕ) → is_in numbers k ≡ true → (m : ℕ) → IsLeft (is_in old) (slice_index_or clauses k []) m → is_in new m ≡ true
told_each clauses old new numbers told k i m left =
    let p = place_of numbers k (in_among numbers k i) in
    told p.0 p.1 m (subst (λ (n : ℕ). IsLeft (is_in old) (slice_index_or clauses n []) m) (sym p.2) left)

-- ---- one literal

-- of the first literals up to one, it or one before
pub one_more : (old new : List ℕ) (place lit : ℕ) → take (length old) new ≡ old → place < length old → lit ≡ slice_index old place → (x : ℕ) → is_in (take (place + 1) new) x ≡ true → (is_in (take place old) x ≡ true) ⊎ (lit ≡ x)
one_more old new place lit front lt at x i =
    let e = front_part old new (place + 1) front (omega (arith, lt)) in
    elim (in_split (take place old) (slice_index old place ∷ []) x (subst (λ (ls : List ℕ). is_in ls x ≡ true) (e ∙ take_more old place 0 lt) i)) [
      | inl h ↦ inl h
      | inr h ↦ elim (or_split _ _ h) [ inl s ↦ inr (at ∙ test_same _ x s) | inr n ↦ absurd (apart _ n refl) ]
    ]

module _ (known : List (ℕ × ℕ)) (clauses : List (List ℕ)) (old mid : List ℕ) (place lit : ℕ) (lt : place < length old) (at : lit ≡ slice_index old place)
    (followed : IsFollowed known clauses (take place old) old)
    (told : IsGrown (IsFull (has_clause known) []) old mid × ((y : ℕ) → has_clause known (opposite lit) y ≡ true → is_in mid y ≡ true)) where
  pub follow_clash : IsContradiction (λ set. AllByRecursion (Obeys set) clauses) mid → IsContradiction (ObeysAll known clauses) old
  follow_clash k = λ set all has. k set all.1 (told.0.sound set all.0 has)

  pub follow_grown : (new : List ℕ) → IsGrown (λ set. AllByRecursion (Obeys set) clauses) mid new → IsGrown (ObeysAll known clauses) old new
  follow_grown new g =
      grown_then (ObeysAll known clauses) old mid new (grown_by (ObeysAll known clauses) (IsFull (has_clause known) []) old mid (λ set all has. all.0) told.0)
      (grown_by (ObeysAll known clauses) (λ set. AllByRecursion (Obeys set) clauses) mid new (λ set all has. all.1) g)

  module _ (new : List ℕ) (front : take (length mid) new ≡ mid)
      (each : (k : ℕ) → k < length clauses → is_in (slice_index_or clauses k []) (opposite lit) ≡ true → (l : ℕ) → IsLeft (is_in mid) (slice_index_or clauses k []) l → is_in new l ≡ true) where
    all_front : take (length old) new ≡ old
    all_front = front_then old mid new told.0.front front

    -- the first literals of the new ones are old
    first_old : HasAll (is_in old) (take (place + 1) new)
    first_old x i = elim (one_more old new place lit all_front lt at x i) [
      | inl h ↦ subst (λ (ls : List ℕ). is_in ls x ≡ true) (take-append-drop place old) (in_left (take place old) (drop place old) x h)
      | inr e ↦ among_in old x (subst (λ (l : ℕ). Among l old) (sym at ∙ e) (among_place old place lt))
    ]

    -- of a clause without the opposite of the literal nothing else is false
    unchanged : (c : List ℕ) → is_in c (opposite lit) ≡ false → (l : ℕ) → IsLeft (is_in (take (place + 1) new)) c l → IsLeft (is_in (take place old)) c l
    unchanged [] f l left = tt
    unchanged (m ∷ c) f l left =
        let parts = or_none (m == opposite lit) (is_in c (opposite lit)) f in (
          elim left.0 [
            | inl e ↦ inl e
            | inr h ↦ elim (one_more old new place lit all_front lt at (opposite m) h) [
              | inl g ↦ inr g
              | inr e ↦ absurd (apart _ (same_test m (opposite lit) (sym (opposite_twice m) ∙ ap opposite (sym e))) parts.0)
            ]
          ],
          unchanged c parts.1 l left.1,
        )

    pub follow_all : IsFollowed known clauses (take (place + 1) new) new
    follow_all = record {
      single = λ l v. front_in old new all_front l (followed.single l v);
      chain = λ x y i v. elim (one_more old new place lit all_front lt at x i) [
        | inl h ↦ front_in old new all_front y (followed.chain x y h v)
        | inr e ↦ front_in mid new front y (told.1 y (subst (λ (k : ℕ). has_clause known (opposite k) y ≡ true) (sym e) v))
      ];
      unit = each_from _ clauses (λ c among l left. elim (cases (is_in c (opposite lit))) [
        | inl here ↦
            let n = clause_number clauses c among in
            each n.0 n.1 (subst (λ (d : List ℕ). is_in d (opposite lit) ≡ true) (sym n.2) here) l
            (subst (λ (d : List ℕ). IsLeft (is_in mid) d l) (sym n.2) (left_more (is_in (take (place + 1) new)) (is_in mid) (λ x i. front_in old mid told.0.front x (first_old x i)) c l left))
        | inr not_here ↦ front_in old new all_front l (each_at (λ (d : List ℕ). (m : ℕ) → IsLeft (is_in (take place old)) d m → is_in old m ≡ true) clauses c followed.unit among l (unchanged c not_here l left))
      ]);
    }
