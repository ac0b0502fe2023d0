-- The tables of an assignment, with one literal more and with one less.
use Rattle.std.proofs.Common.{arith, ◌≡◌, ◌≢◌, ◌==◌, ltb, ℕ, zero, suc, ◌+◌, ◌-◌, ◌/◌, ◌%◌, ◌<◌, ◌≤◌, List, [], ◌∷◌, ◌++◌, length, take, set, get_or, Bool, true, false, ◌||◌, if◌then◌else◌, refl, sym, ap, ◌∙◌, Option, Some, None, ◌⊎◌, inl, inr, length-set, get_or-set_same, get_or-set_other}
use Rattle.std.proofs.lemmas.Bool.Decides.{nat_tests}
use Rattle.std.proofs.lemmas.List.{length-take, length-take-le, get_or-take, length_push, get_or_push, get_or_append_left}
use Rattle.clause_base.specs.Literal.{opposite}
use Rattle.clause_base.specs.Clause.{has_literal}
use Rattle.cdcl_defs.specs.declared.trail.Assigned.{Assigned}
use Rattle.cdcl_defs.specs.State.{is_on}
use Rattle.cdcl_defs.specs.Learn.{backtracked}
use Rattle.cdcl_tables.specs.Assignment.{IsAssignment, literals}
use Rattle.cdcl_tables.specs.Mirrored.{IsPlaced}

pub has-snoc : (xs : List ℕ) (y l : ℕ) → has_literal (xs ++ y ∷ []) l ≡ (has_literal xs l || (y == l))
has-snoc [] y l = by (y == l)
  where
    by : (b : Bool) → (b || false) ≡ b
    by true = refl
    by false = refl
has-snoc (x ∷ xs) y l = by (x == l) (has-snoc xs y l)
  where
    by : (b : Bool) → has_literal (xs ++ y ∷ []) l ≡ (has_literal xs l || (y == l)) → (b || has_literal (xs ++ y ∷ []) l) ≡ ((b || has_literal xs l) || (y == l))
    by true h = refl
    by false h = h

-- a literal is true where it stands on the trail
pub has_is : (trail : List Assigned) (l : ℕ) → has_literal (literals trail) l ≡ is_on trail l
has_is [] l = refl
has_is (a ∷ trail) l = ap (λ (b : Bool). (a.literal == l) || b) (has_is trail l)

-- to backtrack leaves the literals below a length
pub literals_back : (level : ℕ) (trail : List Assigned) → take (length (backtracked level trail)) (literals trail) ≡ literals (backtracked level trail)
literals_back level [] = refl
literals_back level (a ∷ trail) = by a.reason (level == 0) (literals_back level trail) (literals_back (level - 1) trail)
  where
    by : (o : Option ℕ) (b : Bool) → take (length (backtracked level trail)) (literals trail) ≡ literals (backtracked level trail) → take (length (backtracked (level - 1) trail)) (literals trail)
        ≡ literals (backtracked (level - 1) trail) → take
        (length (elim o as (λ _. List Assigned) [ Some r ↦ a ∷ backtracked level trail | None ↦ if b then [] else a ∷ backtracked (level - 1) trail ])) (literals (a ∷ trail)) ≡ literals
        (elim o as (λ _. List Assigned) [ Some r ↦ a ∷ backtracked level trail | None ↦ if b then [] else a ∷ backtracked (level - 1) trail ])
    by (Some r) b same less = ap (λ (ls : List ℕ). a.literal ∷ ls) same
    by None true same less = refl
    by None false same less = ap (λ (ls : List ℕ). a.literal ∷ ls) less

pub back_le : (level : ℕ) (trail : List Assigned) → length (backtracked level trail) ≤ length trail
back_le level [] = omega arith
back_le level (a ∷ trail) = by a.reason (level == 0) (back_le level trail) (back_le (level - 1) trail)
  where
    by : (o : Option ℕ) (b : Bool) → length (backtracked level trail) ≤ length trail → length (backtracked (level - 1) trail) ≤ length trail
        → length (elim o as (λ _. List Assigned) [ Some r ↦ a ∷ backtracked level trail | None ↦ if b then [] else a ∷ backtracked (level - 1) trail ]) ≤ length (a ∷ trail)
    by (Some r) b same less = omega (arith, same)
    by None true same less = omega arith
    by None false same less = omega (arith, less)

-- what is in a list stands somewhere
position_in : (xs : List ℕ) (l : ℕ) → has_literal xs l ≡ true → (i : ℕ) × (i < length xs) × (get_or xs i 0 ≡ l)
position_in [] l h = absurd (let w : ⊥ = cc in w)
position_in (x ∷ xs) l h = by (x == l) refl h (position_in xs l)
  where
    by : (b : Bool) → (x == l) ≡ b → (b || has_literal xs l) ≡ true → (has_literal xs l ≡ true → (i : ℕ) × (i < length xs) × (get_or xs i 0 ≡ l))
        → (i : ℕ) × (i < length (x ∷ xs)) × (get_or (x ∷ xs) i 0 ≡ l)
    by true f h on = (0, omega arith, grind (arith, nat_tests))
    by false f h on = let w = on h in (suc w.0, omega (arith, w.1), w.2)

has_at : (xs : List ℕ) (i l : ℕ) → i < length xs → get_or xs i 0 ≡ l → has_literal xs l ≡ true
has_at [] i l h e = absurd (omega arith)
has_at (x ∷ xs) zero l h e = let t : (x == l) ≡ true = grind (arith, nat_tests) in rw t
has_at (x ∷ xs) (suc i) l h e = by (x == l) (has_at xs i l (omega arith) e)
  where
    by : (b : Bool) → has_literal xs l ≡ true → (b || has_literal xs l) ≡ true
    by true h = refl
    by false h = h

same_half : (a b : ℕ) → a / 2 ≡ b / 2 → (a ≡ b) ⊎ (a ≡ opposite b)
same_half a b h = by (b % 2 == 0) refl (a % 2 == 0) refl
  where
    by : (p : Bool) → (b % 2 == 0) ≡ p → (q : Bool) → (a % 2 == 0) ≡ q → (a ≡ b) ⊎ (a ≡ (if p then b + 1 else b - 1))
    by true f true g = let s : b % 2 ≡ 0 = grind (arith, nat_tests) in let t : a % 2 ≡ 0 = grind (arith, nat_tests) in inl (omega (arith, s, t, h))
    by true f false g = let s : b % 2 ≡ 0 = grind (arith, nat_tests) in let t : a % 2 ≢ 0 = grind (arith, nat_tests) in inr (omega (arith, s, t, h))
    by false f true g = let s : b % 2 ≢ 0 = grind (arith, nat_tests) in let t : a % 2 ≡ 0 = grind (arith, nat_tests) in inr (omega (arith, s, t, h))
    by false f false g = let s : b % 2 ≢ 0 = grind (arith, nat_tests) in let t : a % 2 ≢ 0 = grind (arith, nat_tests) in inl (omega (arith, s, t, h))

-- a variable of the trail differs from one without a value
apart : (trail : List ℕ) (code : ℕ) → has_literal trail code ≡ false → has_literal trail (opposite code) ≡ false → (i : ℕ) → i < length trail → get_or trail i 0 / 2 ≢ code / 2
apart trail code off free i h e =
    let t = has_at trail i (get_or trail i 0) h refl in
    elim (same_half (get_or trail i 0) code e) [
      | inl a ↦ let z : true ≡ false = sym t ∙ ap (has_literal trail) a ∙ off in cc
      | inr a ↦ let z : true ≡ false = sym t ∙ ap (has_literal trail) a ∙ free in cc
    ]

-- one literal more has its position
pub placed_push : (n : ℕ) (trail : List ℕ) (positions : List ℕ) (code : ℕ) → IsPlaced n trail positions → code / 2 < n → has_literal trail code ≡ false → has_literal trail (opposite code) ≡ false
    → IsPlaced n (trail ++ code ∷ []) (set positions (code / 2) (length trail))
placed_push n trail positions code m below off free = record {
  size = length-set positions (code / 2) (length trail) ∙ m.size;
  positions_are = λ i h. positions_by i (i == length trail) refl (omega (arith, h, length_push trail code));
}
  where
    positions_by : (i : ℕ) (p : Bool) → (i == length trail) ≡ p → i < length trail + 1 → get_or (set positions (code / 2) (length trail)) (get_or (trail ++ code ∷ []) i 0 / 2) 0 ≡ i
    positions_by i true f h =
        let e : i ≡ length trail = grind (arith, nat_tests) in
        ap (λ (x : ℕ). get_or (set positions (code / 2) (length trail)) (x / 2) 0) (get_or_push trail code 0 i (sym e))
        ∙ get_or-set_same positions (code / 2) (length trail) 0 (omega (arith, below, m.size)) ∙ sym e
    positions_by i false f h =
        let e : i ≢ length trail = grind (arith, nat_tests) in
        let l : i < length trail = omega (arith, h, e) in
        let ne : get_or trail i 0 / 2 ≢ code / 2 = apart trail code off free i l in
        ap (λ (x : ℕ). get_or (set positions (code / 2) (length trail)) (x / 2) 0) (get_or_append_left trail (code ∷ []) 0 i l)
        ∙ get_or-set_other positions (code / 2) (get_or trail i 0 / 2) (length trail) 0 ne ∙ m.positions_are i l

-- the first literals of a trail keep theirs
pub placed_take : (n k : ℕ) (trail positions : List ℕ) → IsPlaced n trail positions → IsPlaced n (take k trail) positions
placed_take n k trail positions m = record {
  size = m.size;
  positions_are = λ i h.
      let s = length-take k trail in
      ap (λ (x : ℕ). get_or positions (x / 2) 0) (get_or-take k trail i 0 (omega (arith, h, s))) ∙ m.positions_are i (omega (arith, h, s));
}

-- the position of a literal that is true
pub place_in : (n : ℕ) (trail positions : List ℕ) (code : ℕ) → IsPlaced n trail positions → has_literal trail code ≡ true
    → (let p = get_or positions (code / 2) 0 in (p < length trail) × (get_or trail p 0 ≡ code) × ((i : ℕ) → i < p → get_or trail i 0 ≢ code))
place_in n trail positions code m h =
    let w = position_in trail code h in
    let p : get_or positions (code / 2) 0 ≡ w.0 = ap (λ (x : ℕ). get_or positions (x / 2) 0) (sym w.2) ∙ m.positions_are w.0 w.1 in (
      omega (arith, p, w.1),
      ap (λ (i : ℕ). get_or trail i 0) p ∙ w.2,
      λ i l e.
          let q : get_or positions (code / 2) 0 ≡ i = ap (λ (x : ℕ). get_or positions (x / 2) 0) (sym e) ∙ m.positions_are i (omega (arith, l, p, w.1)) in
          omega (arith, l, q),
    )

-- from its position on a literal is true
pub position_is : (n : ℕ) (trail : List ℕ) (on : List Bool) (positions : List ℕ) (code half : ℕ) → IsAssignment n trail on positions → code / 2 ≡ half → has_literal trail code ≡ true → (k : ℕ)
    → k ≤ length trail → has_literal (take k trail) code ≡ ltb (get_or positions half 0) k
position_is n trail on positions code half m e h k kl =
    let w = position_in trail code h in
    let p : get_or positions half 0 ≡ w.0 = ap (λ (x : ℕ). get_or positions x 0) (sym (ap (λ (x : ℕ). x / 2) w.2 ∙ e)) ∙ m.positions_are w.0 w.1 in
    rw p (by w.0 w.1 w.2 (ltb w.0 k) refl)
  where
    by : (i : ℕ) → i < length trail → get_or trail i 0 ≡ code → (b : Bool) → ltb i k ≡ b → has_literal (take k trail) code ≡ b
    by i il v true f =
        let g : i < k = grind (arith, nat_tests) in
        has_at (take k trail) i code (omega (arith, g, length-take-le k trail kl)) (get_or-take k trail i 0 g ∙ v)
    by i il v false f = at (has_literal (take k trail) code) refl
      where
        at : (b : Bool) → has_literal (take k trail) code ≡ b → b ≡ false
        at true q =
            let g : k ≤ i = grind (arith, nat_tests) in
            let w = position_in (take k trail) code q in
            let lk = length-take-le k trail kl in
            let jk : w.0 < k = omega (arith, w.1, lk) in
            let u : get_or trail w.0 0 ≡ get_or trail i 0 = sym (get_or-take k trail w.0 0 jk) ∙ w.2 ∙ sym v in
            let z : w.0 ≡ i = sym (m.positions_are w.0 (omega (arith, jk, kl))) ∙ ap (λ (x : ℕ). get_or positions (x / 2) 0) u ∙ m.positions_are i il in
            absurd (omega (arith, z, jk, g))
        at false q = refl
