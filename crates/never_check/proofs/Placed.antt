-- Literals that stand at their places are distinct, so that they are few.
use Rattle.std.proofs.Common.{arith, ◌≡◌, ℕ, zero, suc, ◌+◌, ◌*◌, ◌<◌, ◌≤◌, List, [], ◌∷◌, ◌++◌, length, get_or, set, true, false, refl, ap, sym, ◌∙◌, subst, inl, inr}
use Rattle.std.specs.Prelude.{nat_eq}
use Rattle.std.proofs.lemmas.Cmp.{nat_eq_equiv}
use Rattle.std.specs.List.{IsDistinct, list_any}
use Rattle.std.proofs.lemmas.Map.Keys.{IsDistinct-from_apart}
use Rattle.std.proofs.lemmas.Map.Made.{length-le_from_is_member}
use Rattle.std.proofs.lemmas.List.{get_or_append_left, get_or_push, get_or-set_same, get_or-set_other, length-append, length-set}
use Rattle.std.proofs.lemmas.Bool.{cases_lt}
use Rattle.gt_core.specs.Literal.{is_in, range, range_from}
use Rattle.gt_core.proofs.published.Basics.{Among, passing, any_at, same_test, test_same, not_true, apart, same_if}
use Rattle.gt_core.proofs.published.Literals.{in_among, among_in, among_range}
use Rattle.never_check.specs.Trail.{Reached, ArePlaced}
use Rattle.gt_core.specs.Limits.{most_facts}

-- an element of a list is at some place
pub place_of : (xs : List ℕ) (x : ℕ) → Among x xs → (k : ℕ) × (k < length xs) × (get_or xs k 0 ≡ x)
place_of [] x a = absurd a
place_of (y ∷ xs) x (inl s) = (0, omega arith, sym s)
place_of (y ∷ xs) x (inr a) = let p = place_of xs x a in (suc p.0, omega arith, p.2)

pub among_place : (xs : List ℕ) (k : ℕ) → k < length xs → Among (get_or xs k 0) xs
among_place [] k lt = absurd (omega arith)
among_place (y ∷ xs) zero lt = inl refl
among_place (y ∷ xs) (suc k) lt = inr (among_place xs k (omega arith))

length-range_from : (n first : ℕ) → length (range_from first n) ≡ n
length-range_from zero first = refl
length-range_from (suc n) first = ap suc (length-range_from n (first + 1))

module _ (places literals : List ℕ) (are : ArePlaced places literals) where
  pub placed_distinct : IsDistinct nat_eq literals
  placed_distinct = IsDistinct-from_apart nat_eq literals (λ i j d lt within. other i j d lt within)
    where
      same_default : (xs : List ℕ) (k d : ℕ) → k < length xs → get_or xs k d ≡ get_or xs k 0
      same_default [] k d lt = absurd (omega arith)
      same_default (x ∷ xs) zero d lt = refl
      same_default (x ∷ xs) (suc k) d lt = same_default xs k d (omega arith)

      other : (i j d : ℕ) → i < j → j < length literals → nat_eq (get_or literals i d) (get_or literals j d) ≡ false
      other i j d lt within =
          not_true _ (λ e.
          let before : i < length literals = omega arith in
          let same : get_or literals i 0 ≡ get_or literals j 0 = sym (same_default literals i d before) ∙ test_same (get_or literals i d) (get_or literals j d) e ∙ same_default literals j d within in
          let p : i ≡ j = sym (are.at i before) ∙ ap (λ (l : ℕ). get_or places l 0) same ∙ are.at j within in
          omega arith)

  pub placed_few : length literals ≤ length places
  placed_few =
      let le = length-le_from_is_member nat_eq_equiv literals (range (length places)) placed_distinct (λ q m. in_range q m) in
      omega (arith, le, length-range_from (length places) 0)
    where
      in_range : (q : ℕ) → list_any (nat_eq q) literals ≡ true → list_any (nat_eq q) (range (length places)) ≡ true
      in_range q m =
          let p = passing (nat_eq q) literals m in
          let k = place_of literals p.one p.among in
          let same : q ≡ p.one = test_same q p.one p.passes in
          let lt : q < length places = subst (λ (l : ℕ). l < length places) (k.2 ∙ sym same) (are.below k.0 k.1) in
          any_at (nat_eq q) (range (length places)) q (among_range (length places) 0 q (omega arith) (omega arith)) (same_test q q refl)

-- ---- what a look at one place tells

pub stands_true : (places literals : List ℕ) (lit : ℕ) → ArePlaced places literals → get_or places lit 0 < length literals → nat_eq (get_or literals (get_or places lit 0) 0) lit ≡ is_in literals lit
stands_true places literals lit are lt = same_if (nat_eq (get_or literals (get_or places lit 0) 0) lit) (is_in literals lit) there back
  where
    there : nat_eq (get_or literals (get_or places lit 0) 0) lit ≡ true → is_in literals lit ≡ true
    there e = among_in literals lit (subst (λ (l : ℕ). Among l literals) (test_same _ lit e) (among_place literals (get_or places lit 0) lt))

    back : is_in literals lit ≡ true → nat_eq (get_or literals (get_or places lit 0) 0) lit ≡ true
    back i =
        let k = place_of literals lit (in_among literals lit i) in
        let at : get_or places lit 0 ≡ k.0 = ap (λ (l : ℕ). get_or places l 0) (sym k.2) ∙ are.at k.0 k.1 in
        same_test _ lit (ap (λ (j : ℕ). get_or literals j 0) at ∙ k.2)

pub stands_past : (places literals : List ℕ) (lit : ℕ) → ArePlaced places literals → length literals ≤ get_or places lit 0 → is_in literals lit ≡ false
stands_past places literals lit are le = not_true _ (λ i.
    let k = place_of literals lit (in_among literals lit i) in
    let at : get_or places lit 0 ≡ k.0 = ap (λ (l : ℕ). get_or places l 0) (sym k.2) ∙ are.at k.0 k.1 in
    let lt = k.1 in
    omega arith)

-- ---- one literal more, and fewer

pub placed_push : (places literals : List ℕ) (lit place : ℕ) → place ≡ length literals → ArePlaced places literals → lit < length places → is_in literals lit ≡ false → ArePlaced (set places lit place) (literals ++ lit ∷ [])
placed_push places literals lit place long are lt new = record {
  below = λ k h. let same = length-set places lit place in elim (cases_lt k (length literals)) [
    | inl b ↦ let e = get_or_append_left literals (lit ∷ []) 0 k b in let was = are.below k b in omega (arith, e, was, same)
    | inr le ↦ let e = get_or_push literals lit 0 k (last k h le) in omega (arith, e, same)
  ];
  at = λ k h. elim (cases_lt k (length literals)) [
    | inl b ↦
        let e = get_or_append_left literals (lit ∷ []) 0 k b in
        let other : get_or literals k 0 ≡ lit → ⊥ = λ s. apart _ (among_in literals lit (subst (λ (l : ℕ). Among l literals) s (among_place literals k b))) new in
        ap (λ (l : ℕ). get_or (set places lit place) l 0) e ∙ get_or-set_other places lit (get_or literals k 0) place 0 other ∙ are.at k b
    | inr le ↦
        let e = get_or_push literals lit 0 k (last k h le) in
        ap (λ (l : ℕ). get_or (set places lit place) l 0) e ∙ get_or-set_same places lit place 0 lt ∙ (let z = last k h le in omega arith)
  ];
}
  where
    last : (k : ℕ) → k < length (literals ++ lit ∷ []) → length literals ≤ k → length literals ≡ k
    last k h le = let l = length-append literals (lit ∷ []) in omega (arith, l, h, le)

pub pushed : (places literals items : List ℕ) (facts lit place : ℕ) (trail : Reached) → record { facts = facts; literals = literals } ≡ trail → lit < 2 * trail.facts → is_in trail.literals lit ≡ false
    → place ≡ length literals → ArePlaced places literals × (length places ≡ 2 * facts) × (facts ≤ most_facts) → items ≡ literals ++ lit ∷ []
    → ArePlaced (set places lit place) items × (length (set places lit place) ≡ 2 * facts) × (facts ≤ most_facts)
pushed places literals items facts lit place trail view lt new long are more =
    let size = ap (λ (r : Reached). r.facts) view in
    let same = ap (λ (r : Reached). r.literals) view in
    let full = are.1 in
    let below : lit < length places = omega (arith, size, lt, full) in (
      subst (ArePlaced (set places lit place)) (sym more) (placed_push places literals lit place long are.0 below (ap (λ (ls : List ℕ). is_in ls lit) same ∙ new)),
      length-set places lit place ∙ full,
      are.2,
    )
