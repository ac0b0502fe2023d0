-- Codes that are renamed, and those of moved variables: clauses stay clauses.
use Rattle.std.proofs.Common.{arith, ◌≡◌, ◌==◌, ℕ, ◌+◌, ◌-◌, ◌*◌, ◌/◌, ◌%◌, ◌<◌, ◌≤◌, List, [], ◌∷◌, map, Bool, true, false, refl, sym, ap, ◌∙◌, nat_lt, ◌⊎◌, inl, inr}
use Rattle.std.specs.List.{list_any}
use Rattle.std.proofs.lemmas.Bool.{lt-ltb, le-ltb, cases_lt, eq-eqb, eqb-true}
use Rattle.std.proofs.lemmas.Bool.Decides.{nat_tests}
use Rattle.clause_base.specs.Literal.{opposite}
use Rattle.clause_base.specs.Clause.{IsRising, IsClause, has_opposite_pair}
use Rattle.clause_base.specs.Repeats.{moved_code}

less_if_not : (a b : ℕ) → (a == b) ≡ false → b ≤ a → b < a
less_if_not a b e h = grind (arith, nat_tests)

-- a renaming that keeps the order of codes and their opposites
module _ (g : ℕ → ℕ) (rises : (l m : ℕ) → l < m → g l < g m) (turns : (l : ℕ) → opposite (g l) ≡ g (opposite l)) where
  not_above : (l m : ℕ) → m ≤ l → g m ≤ g l
  not_above l m h = by (l == m) refl
    where
      by : (b : Bool) → (l == m) ≡ b → g m ≤ g l
      by true e = let s : g m ≡ g l = ap g (sym (eqb-true l m e)) in omega arith
      by false e = let k = rises m l (less_if_not l m e h) in omega arith

  below_by : (l m : ℕ) → (l < m) ⊎ (m ≤ l) → nat_lt (g l) (g m) ≡ nat_lt l m
  below_by l m (inl h) = lt-ltb (g l) (g m) (rises l m h) ∙ sym (lt-ltb l m h)
  below_by l m (inr h) = le-ltb (g l) (g m) (not_above l m h) ∙ sym (le-ltb l m h)

  pub below : (l m : ℕ) → nat_lt (g l) (g m) ≡ nat_lt l m
  below l m = below_by l m (cases_lt l m)

  injective : (l m : ℕ) → g l ≡ g m → l ≡ m
  injective l m e = by (cases_lt l m) (cases_lt m l)
    where
      by : (l < m) ⊎ (m ≤ l) → (m < l) ⊎ (l ≤ m) → l ≡ m
      by (inl a) b = let k = rises l m a in absurd (omega arith)
      by (inr a) (inl b) = let k = rises m l b in absurd (omega arith)
      by (inr a) (inr b) = omega arith

  pub same : (l m : ℕ) → (g l == g m) ≡ (l == m)
  same l m = by (g l == g m) (l == m) refl refl
    where
      by : (a b : Bool) → (g l == g m) ≡ a → (l == m) ≡ b → a ≡ b
      by true true e f = refl
      by false false e f = refl
      by true false e f = sym (eq-eqb l m (injective l m (eqb-true (g l) (g m) e))) ∙ f
      by false true e f = sym e ∙ eq-eqb (g l) (g m) (ap g (eqb-true l m f))

  any_renamed : (p q : ℕ → Bool) (lits : List ℕ) → ((m : ℕ) → p (g m) ≡ q m) → list_any p (map g lits) ≡ list_any q lits
  any_renamed p q [] h = refl
  any_renamed p q (m ∷ lits) h = rw (h m, any_renamed p q lits h)

  pub pair_renamed : (lits : List ℕ) → has_opposite_pair (map g lits) ≡ has_opposite_pair lits
  pair_renamed lits =
      any_renamed (λ l. list_any (λ m. m == opposite l) (map g lits)) (λ l. list_any (λ m. m == opposite l) lits) lits (λ l.
      any_renamed (λ m. m == opposite (g l)) (λ m. m == opposite l) lits (λ m. ap (λ (x : ℕ). g m == x) (turns l) ∙ same m (opposite l)))

  rising_renamed : (lits : List ℕ) → IsRising lits → IsRising (map g lits)
  rising_renamed [] r = tt
  rising_renamed (l ∷ []) r = tt
  rising_renamed (l ∷ m ∷ lits) r = (rises l m r.0, rising_renamed (m ∷ lits) r.1)

  -- a clause stays one
  pub clause_renamed : (lits : List ℕ) → IsClause lits → IsClause (map g lits)
  clause_renamed lits c = record { rising = rising_renamed lits c.rising; no_pair = pair_renamed lits ∙ c.no_pair }

pub moved_below : (width step facts l : ℕ) → l < 2 * width → moved_code width step facts l ≡ 2 * step + l
moved_below width step facts l h = let t : nat_lt l (2 * width) ≡ true = grind (arith, nat_tests) in rw t

pub moved_above : (width step facts l : ℕ) → 2 * width ≤ l → moved_code width step facts l ≡ 2 * facts + (l - 2 * width)
moved_above width step facts l h = let t : nat_lt l (2 * width) ≡ false = grind (arith, nat_tests) in rw t

pub where_is : (l w : ℕ) → (l < w) ⊎ (w ≤ l)
where_is l w = cases_lt l w

pub moved_rises : (width step facts : ℕ) → step + width ≤ facts → (l m : ℕ) → l < m → moved_code width step facts l < moved_code width step facts m
moved_rises width step facts le l m lt = by (where_is l (2 * width)) (where_is m (2 * width))
  where
    by : (l < 2 * width) ⊎ (2 * width ≤ l) → (m < 2 * width) ⊎ (2 * width ≤ m) → moved_code width step facts l < moved_code width step facts m
    by (inl a) (inl b) = let x = moved_below width step facts l a in let y = moved_below width step facts m b in omega arith
    by (inl a) (inr b) = let x = moved_below width step facts l a in let y = moved_above width step facts m b in omega arith
    by (inr a) (inl b) = absurd (omega arith)
    by (inr a) (inr b) = let x = moved_above width step facts l a in let y = moved_above width step facts m b in omega arith

opposite_even : (l k : ℕ) → l ≡ 2 * k → opposite l ≡ 2 * k + 1
opposite_even l k e = let m : (l % 2 == 0) ≡ true = grind (arith, nat_tests) in rw (m, e)

opposite_odd : (l k : ℕ) → l ≡ 2 * k + 1 → opposite l ≡ 2 * k
opposite_odd l k e = let m : (l % 2 == 0) ≡ false = grind (arith, nat_tests) in rw m (omega arith)

-- the literals of one variable go to those of another
turned_even : (f : ℕ → ℕ) (l k s : ℕ) → l ≡ 2 * k → f l ≡ 2 * s → f (2 * k + 1) ≡ 2 * s + 1 → opposite (f l) ≡ f (opposite l)
turned_even f l k s e x y = opposite_even (f l) s x ∙ sym (ap f (opposite_even l k e) ∙ y)

turned_odd : (f : ℕ → ℕ) (l k s : ℕ) → l ≡ 2 * k + 1 → f l ≡ 2 * s + 1 → f (2 * k) ≡ 2 * s → opposite (f l) ≡ f (opposite l)
turned_odd f l k s e x y = opposite_odd (f l) s x ∙ sym (ap f (opposite_odd l k e) ∙ y)

pub moved_turns : (width step facts l : ℕ) → opposite (moved_code width step facts l) ≡ moved_code width step facts (opposite l)
moved_turns width step facts l = by (l % 2 == 0) refl (where_is l (2 * width))
  where
    by : (b : Bool) → (l % 2 == 0) ≡ b → (l < 2 * width) ⊎ (2 * width ≤ l) → opposite (moved_code width step facts l) ≡ moved_code width step facts (opposite l)
    by true e (inl a) =
        let h : l % 2 ≡ 0 = grind (arith, nat_tests) in
        turned_even (moved_code width step facts) l (l / 2) (step + l / 2) (omega arith) (moved_below width step facts l a ∙ omega arith) (moved_below width step facts (2 * (l / 2) + 1) (omega arith) ∙ omega arith)
    by true e (inr a) =
        let h : l % 2 ≡ 0 = grind (arith, nat_tests) in
        turned_even (moved_code width step facts) l (l / 2) (facts + (l / 2 - width)) (omega arith) (moved_above width step facts l a ∙ omega arith) (moved_above width step facts (2 * (l / 2) + 1) (omega arith) ∙ omega arith)
    by false e (inl a) =
        let h : l % 2 ≡ 1 = grind (arith, nat_tests) in
        turned_odd (moved_code width step facts) l (l / 2) (step + l / 2) (omega arith) (moved_below width step facts l a ∙ omega arith) (moved_below width step facts (2 * (l / 2)) (omega arith) ∙ omega arith)
    by false e (inr a) =
        let h : l % 2 ≡ 1 = grind (arith, nat_tests) in
        turned_odd (moved_code width step facts) l (l / 2) (facts + (l / 2 - width)) (omega arith) (moved_above width step facts l a ∙ omega arith) (moved_above width step facts (2 * (l / 2)) (omega arith) ∙ omega arith)

pub moved_is_clause : (width step facts : ℕ) (lits : List ℕ) → step + width ≤ facts → IsClause lits → IsClause (map (moved_code width step facts) lits)
moved_is_clause width step facts lits le c = clause_renamed (moved_code width step facts) (moved_rises width step facts le) (moved_turns width step facts) lits c
