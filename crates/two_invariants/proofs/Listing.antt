use Rattle.std.proofs.Common.{arith, ◌≡◌, ◌==◌, ℕ, ◌+◌, ◌<◌, ◌≤◌, List, Bool, true, false, ◌&&◌, ◌||◌, ap, sym, ◌∙◌, ◌⊎◌, inl, inr}
use Rattle.std.specs.Prelude.{nat_lt, nat_le}
use Rattle.std.proofs.lemmas.Bool.{cases_lt, lt-ltb, ltb-true, le-ltb}
use Rattle.std.proofs.lemmas.Bool.Decides.{nat_tests}
use Rattle.bit_sets.specs.Rows.{row_has}
use Rattle.gt_core.proofs.published.Basics.{cases, not_true, or_split, or_left, or_right, and_split, and_both, same_test, test_same, same_if}
use Rattle.two_invariants.specs.own.Listed.{is_from}

-- The clauses of rows as a list.

later_test : (a b l : ℕ) → (nat_lt a l ≡ true) ⊎ (nat_lt b l ≡ true) → (nat_lt a (l + 1) || nat_lt b (l + 1)) ≡ true
later_test a b l (inl h) = let k = ltb-true a l h in or_left _ _ (lt-ltb a (l + 1) (omega arith))
later_test a b l (inr h) = let k = ltb-true b l h in or_right (nat_lt a (l + 1)) _ (lt-ltb b (l + 1) (omega arith))

le_test : (m n : ℕ) → m ≤ n → nat_le m n ≡ true
le_test m n h = grind (arith, nat_tests)

module _ (V : ℕ → ℕ → Bool) (size : ℕ) (row : List ℕ) (l : ℕ) (either : (x y : ℕ) → V x y ≡ V y x) (within : (x y : ℕ) → V x y ≡ true → y < size) (is : (m : ℕ) → row_has row m ≡ V l m) where
  abbrev from_one : ℕ → ℕ → Bool
  from_one x y = (l == x) && ((nat_le l y && nat_lt y size) && row_has row y)

  at_first : (x y : ℕ) → from_one x y ≡ true → (V x y ≡ true) × (nat_lt x (l + 1) ≡ true)
  at_first x y t =
      let p = and_split (l == x) ((nat_le l y && nat_lt y size) && row_has row y) t in
      let q = and_split (nat_le l y && nat_lt y size) (row_has row y) p.1 in
      let e : l ≡ x = test_same l x p.0 in
      (ap (λ (k : ℕ). V k y) (sym e) ∙ sym (is y) ∙ q.1, lt-ltb x (l + 1) (omega arith))

  from_first : (x y : ℕ) → V x y ≡ true → l ≡ x → l ≤ y → from_one x y ≡ true
  from_first x y v e le = and_both (l == x) _ (same_test l x e) (and_both _ _ (and_both (nat_le l y) _ (le_test l y le) (lt-ltb y size (within x y v))) (is y ∙ ap (λ (k : ℕ). V k y) e ∙ v))

  module _ (a b : ℕ) where
    abbrev wanted : Bool
    wanted = V a b && (nat_lt a (l + 1) || nat_lt b (l + 1))

    new_wanted : (from_one a b ≡ true) ⊎ (from_one b a ≡ true) → wanted ≡ true
    new_wanted (inl h) = let r = at_first a b h in and_both (V a b) _ r.0 (or_left _ _ r.1)
    new_wanted (inr h) = let r = at_first b a h in and_both (V a b) _ (either a b ∙ r.0) (or_right (nat_lt a (l + 1)) _ r.1)

    module _ (old : Bool) (was : old ≡ (V a b && (nat_lt a l || nat_lt b l))) where
      old_wanted : (old ≡ true) ⊎ (is_from row l size a b ≡ true) → wanted ≡ true
      old_wanted (inl h) = let p = and_split (V a b) (nat_lt a l || nat_lt b l) (sym was ∙ h) in and_both (V a b) _ p.0 (later_test a b l (or_split (nat_lt a l) (nat_lt b l) p.1))
      old_wanted (inr h) = new_wanted (or_split (from_one a b) (from_one b a) h)

      near : V a b ≡ true → l ≤ a → l ≤ b → (a < l + 1) ⊎ (b < l + 1) → is_from row l size a b ≡ true
      near v la lb (inl h) = or_left (from_one a b) (from_one b a) (from_first a b v (omega arith) lb)
      near v la lb (inr h) = or_right (from_one a b) (from_one b a) (from_first b a (either b a ∙ v) (omega arith) la)

      tests : (nat_lt a (l + 1) ≡ true) ⊎ (nat_lt b (l + 1) ≡ true) → (a < l + 1) ⊎ (b < l + 1)
      tests (inl h) = inl (ltb-true a (l + 1) h)
      tests (inr h) = inr (ltb-true b (l + 1) h)

      place : V a b ≡ true → (a < l + 1) ⊎ (b < l + 1) → (a < l) ⊎ (l ≤ a) → (b < l) ⊎ (l ≤ b) → (old || is_from row l size a b) ≡ true
      place v n (inl h) k = or_left old _ (was ∙ and_both (V a b) _ v (or_left _ _ (lt-ltb a l h)))
      place v n (inr h) (inl k) = or_left old _ (was ∙ and_both (V a b) _ v (or_right (nat_lt a l) _ (lt-ltb b l k)))
      place v n (inr h) (inr k) = or_right old _ (near v h k n)

      found : wanted ≡ true → (old || is_from row l size a b) ≡ true
      found t = let p = and_split (V a b) (nat_lt a (l + 1) || nat_lt b (l + 1)) t in place p.0 (tests (or_split (nat_lt a (l + 1)) (nat_lt b (l + 1)) p.1)) (cases_lt a l) (cases_lt b l)

      -- the clauses with the row of one more literal
      pub listed_more : (old || is_from row l size a b) ≡ wanted
      listed_more = same_if (old || is_from row l size a b) wanted (λ t. old_wanted (or_split old (is_from row l size a b) t)) found

-- ---- one literal's clauses, from one literal of its row to the next

module _ (row : List ℕ) (l from : ℕ) (low : l ≤ from) where
  abbrev upto : ℕ → ℕ → Bool
  upto n y = (nat_le l y && nat_lt y n) && row_has row y

  module _ (m : ℕ) (least : from ≤ m) (has : row_has row m ≡ true) (gap : (j : ℕ) → from ≤ j → j < m → row_has row j ≡ false) where
    other : (y : ℕ) → (m ≡ y → ⊥) → (m == y) ≡ false
    other y d = not_true (m == y) (λ t. d (test_same m y t))

    next_upto : (y : ℕ) → upto (m + 1) y ≡ (upto from y || (m == y))
    next_upto y = by (cases_lt y from) (cases_lt y m) (cases_lt m y)
      where
        near : (e t u r q : Bool) → t ≡ true → u ≡ true → q ≡ false → ((e && t) && r) ≡ (((e && u) && r) || q)
        near e t u r q p s n = grind arith

        between : (e t u r q : Bool) → u ≡ false → r ≡ false → q ≡ false → ((e && t) && r) ≡ (((e && u) && r) || q)
        between e t u r q p s n = grind arith

        past : (e t u r q : Bool) → t ≡ false → u ≡ false → q ≡ false → ((e && t) && r) ≡ (((e && u) && r) || q)
        past e t u r q p s n = grind arith

        own : (e t u r q : Bool) → e ≡ true → t ≡ true → r ≡ true → q ≡ true → ((e && t) && r) ≡ (((e && u) && r) || q)
        own e t u r q d p s n = grind arith

        by : (y < from) ⊎ (from ≤ y) → (y < m) ⊎ (m ≤ y) → (m < y) ⊎ (y ≤ m) → upto (m + 1) y ≡ (upto from y || (m == y))
        by (inl h) j k = near _ _ _ _ _ (lt-ltb y (m + 1) (omega arith)) (lt-ltb y from h) (other y (λ e. omega arith))
        by (inr h) (inl j) k = between _ (nat_lt y (m + 1)) _ _ _ (le-ltb y from h) (gap y h j) (other y (λ e. omega arith))
        by (inr h) (inr j) (inl k) = past _ _ _ _ _ (le-ltb y (m + 1) (omega arith)) (le-ltb y from h) (other y (λ e. omega arith))
        by (inr h) (inr j) (inr k) =
            let e : m ≡ y = omega arith in
            own _ _ (nat_lt y from) _ _ (le_test l y (omega arith)) (lt-ltb y (m + 1) (omega arith)) (ap (row_has row) (sym e) ∙ has) (same_test m y e)

    -- one more clause
    pub one_listed : (a b : ℕ) (old start : Bool) → old ≡ (start || is_from row l from a b)
        → ((((l == a) && (m == b)) || ((l == b) && (m == a))) || old) ≡ (start || is_from row l (m + 1) a b)
    one_listed a b old start was =
        join _ old start (is_from row l from a b) was
        ∙ (λ i. start || sym (spread (l == a) (upto from b) (m == b) (l == b) (upto from a) (m == a)) i)
        ∙ (λ i. start || (((l == a) && sym (next_upto b) i) || ((l == b) && sym (next_upto a) i)))
      where
        join : (t old start f : Bool) → old ≡ (start || f) → (t || old) ≡ (start || (f || t))
        join t old start f e = grind arith

        spread : (p x q s y t : Bool) → ((p && (x || q)) || (s && (y || t))) ≡ (((p && x) || (s && y)) || ((p && q) || (s && t)))
        spread p x q s y t = grind arith

  -- the last was looked at
  pub all_listed : (size a b : ℕ) → ((m : ℕ) → row_has row m ≡ true → m < size) → ((k : ℕ) → from ≤ k → row_has row k ≡ false) → is_from row l from a b ≡ is_from row l size a b
  all_listed size a b within none = λ i. ((l == a) && all_upto b i) || ((l == b) && all_upto a i)
    where
      off : (e t u r : Bool) → r ≡ false → ((e && t) && r) ≡ ((e && u) && r)
      off e t u r f = grind arith

      both : (e t u r : Bool) → t ≡ true → u ≡ true → ((e && t) && r) ≡ ((e && u) && r)
      both e t u r p q = grind arith

      all_upto : (y : ℕ) → upto from y ≡ upto size y
      all_upto y = by (cases_lt y from) (cases (row_has row y))
        where
          by : (y < from) ⊎ (from ≤ y) → (row_has row y ≡ true) ⊎ (row_has row y ≡ false) → upto from y ≡ upto size y
          by (inr h) c = off _ (nat_lt y from) (nat_lt y size) _ (none y h)
          by (inl h) (inr f) = off _ (nat_lt y from) (nat_lt y size) _ f
          by (inl h) (inl t) = both _ _ _ _ (lt-ltb y from h) (lt-ltb y size (within y t))
