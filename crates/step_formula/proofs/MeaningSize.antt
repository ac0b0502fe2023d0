use Rattle.std.proofs.Common.{arith, ◌≡◌, ◌==◌, ℕ, ◌+◌, ◌*◌, ◌/◌, ◌%◌, ◌<◌, ◌≤◌, List, [], ◌∷◌, ◌++◌, map, length, Bool, true, false, ◌||◌, refl, sym, ap, ◌∙◌, subst, if◌then◌else◌, nat_lt, nat_le, inl, inr}
use Rattle.std.specs.List.{AllByRecursion}
use Rattle.std.proofs.lemmas.Bool.Decides.{nat_tests}
use Rattle.gt_core.specs.Literal.{opposite}
use Rattle.gt_core.specs.Task.{Effect}
use Rattle.gt_core.specs.Lawful.{are_rising, is_literal_set, is_conditional}
use Rattle.formula_defs.specs.Layout.{Layout, width, action_at, conditional_at, fact_at}
use Rattle.gt_core.proofs.published.Basics.{Among, and_split, or_split, test_same, same_test, apart}
use Rattle.gt_core.proofs.published.Literals.{half_opposite, even_is_add, add_opposite, odd_is_delete}
use Rattle.gt_core.proofs.published.Pairwise.{among_map}
use Rattle.formula_defs.specs.Clause.{Literal, Is, Not, code}
use Rattle.formula_defs.specs.Variables.{variable_at}
use Rattle.formula_defs.specs.Formula.{literal_over, meaning_clauses}
use Rattle.formula_defs.specs.Coded.{coded, literals_in}
use Rattle.formula_defs.proofs.published.ClauseSize.{IsOther, AreApart, two_size, apart_size, pair_size, has_pair, other_variable}
use Rattle.step_formula.specs.Rows.{row_of}
use Rattle.step_formula.specs.own.Sizes.{has_both, meaning_size}
use Rattle.step_formula.proofs.Names.{act_is, conditional_is, now_is, over_half, over_opposite}

-- How many literals the clauses have that say what a conditional effect's variable means.

-- the first of two neighbours of one fact is its add
neighbours : (l m : ℕ) → l < m → l / 2 ≡ m / 2 → m ≡ opposite l
neighbours l m lt e = by (l % 2 == 0) refl
  where
    by : (b : Bool) → (l % 2 == 0) ≡ b → m ≡ opposite l
    by true t = let o = add_opposite l (l / 2) (even_is_add l t) in let v = even_is_add l t in omega (arith, o, v, lt, e)
    by false t = let v = odd_is_delete l t in absurd (omega (arith, v, lt, e))

-- a sorted list that has both literals of a fact
pub record Both (ls : List ℕ) : Type 0 where
  pub one : ℕ
  pub among : Among one ls
  pub other : Among (opposite one) ls

rises : (top low : ℕ) (l : ℕ) (ls : List ℕ) → are_rising top low (l ∷ ls) ≡ true → are_rising top (l + 1) ls ≡ true
rises top low l ls h = (and_split (nat_lt l top) _ (and_split (nat_le low l) _ h).1).1

first_least : (top low : ℕ) (l : ℕ) (ls : List ℕ) → are_rising top low (l ∷ ls) ≡ true → low ≤ l
first_least top low l ls h = let t : nat_le low l ≡ true = (and_split (nat_le low l) _ h).0 in grind (arith, nat_tests)

both : (top low : ℕ) (ls : List ℕ) → are_rising top low ls ≡ true → has_both ls ≡ true → Both ls
both top low [] h b = absurd (let f : false ≡ true = b in cc)
both top low (l ∷ []) h b = absurd (let f : false ≡ true = b in cc)
both top low (l ∷ m ∷ ls) h b =
    let r = rises top low l (m ∷ ls) h in
    elim (or_split (l / 2 == m / 2) (has_both (m ∷ ls)) b) [
      | inl e ↦ let lt : l < m = let g = first_least top (l + 1) m ls r in omega (arith, g) in
          let n = neighbours l m lt (test_same _ _ e) in
          record { one = l; among = inl refl; other = inr (inl (sym n)) }
      | inr e ↦ let x = both top (l + 1) (m ∷ ls) r e in record { one = x.one; among = inr x.among; other = inr x.other }
    ]

-- without, all are of different facts
halves_above : (top low : ℕ) (l : ℕ) (ls : List ℕ) → are_rising top low (l ∷ ls) ≡ true → has_both (l ∷ ls) ≡ false → AllByRecursion (λ m. l / 2 < m / 2) ls
halves_above top low l [] h b = tt
halves_above top low l (m ∷ ls) h b =
    let r = rises top low l (m ∷ ls) h in
    let lt : l < m = let g = first_least top (l + 1) m ls r in omega (arith, g) in
    let x = none (l / 2 == m / 2) (has_both (m ∷ ls)) b in
    let ne : l / 2 ≡ m / 2 → ⊥ = λ q. apart (l / 2 == m / 2) (same_test _ _ q) x.0 in
    let here : l / 2 < m / 2 = omega (arith, lt, ne) in
    (here, weaker (m / 2) (l / 2) ls here (halves_above top (l + 1) m ls r x.1))
  where
    none : (x y : Bool) → (x || y) ≡ false → (x ≡ false) × (y ≡ false)
    none true y e = cc
    none false y e = (refl, e)

    weaker : (m n : ℕ) (ls : List ℕ) → n < m → AllByRecursion (λ k. m < k / 2) ls → AllByRecursion (λ k. n < k / 2) ls
    weaker m n [] le w = tt
    weaker m n (k ∷ ks) le w = (let x = w.0 in omega (arith, x, le), weaker m n ks le w.1)

abbrev meaning : Layout → ℕ → ℕ → List ℕ → List (List Literal)
meaning z a u ls = (Not u ∷ Is (action_at z 0 a) ∷ []) ∷ (map (λ c. Not u ∷ literal_over (fact_at z 0) c ∷ []) ls ++ (Is u ∷ Not (action_at z 0 a) ∷ map (λ c. literal_over (fact_at z 0) (opposite c)) ls) ∷ [])

module _ (z : Layout) (h1 : z.horizon ≡ 1) where
  abbrev now : ℕ → ℕ
  now f = fact_at z 0 f

  -- the contrary of a condition, before the step
  abbrev against : List ℕ → List ℕ
  against ls = map code (map (λ c. literal_over now (opposite c)) ls)

  against_half : (l : ℕ) → code (literal_over now (opposite l)) / 2 ≡ width z + l / 2
  against_half l = over_half now (opposite l) ∙ ap now (half_opposite l) ∙ now_is z (l / 2) h1

  others : (l : ℕ) (ls : List ℕ) → AllByRecursion (λ m. l / 2 < m / 2) ls → AllByRecursion (IsOther (code (literal_over now (opposite l)))) (against ls)
  others l [] w = tt
  others l (m ∷ ls) w = (other_variable _ _ (width z + l / 2) (width z + m / 2) (against_half l) (against_half m) (λ q. let x = w.0 in omega (arith, x, q)), others l ls w.1)

  against_apart : (top low : ℕ) (ls : List ℕ) → are_rising top low ls ≡ true → has_both ls ≡ false → AreApart (against ls)
  against_apart top low [] r b = tt
  against_apart top low (l ∷ ls) r b = (others l ls (halves_above top low l ls r b), against_apart top (l + 1) ls (rises top low l ls r) (rest l ls b))
    where
      rest : (l : ℕ) (ls : List ℕ) → has_both (l ∷ ls) ≡ false → has_both ls ≡ false
      rest l [] e = refl
      rest l (m ∷ ls) e = right (l / 2 == m / 2) (has_both (m ∷ ls)) e
        where
          right : (x y : Bool) → (x || y) ≡ false → y ≡ false
          right true y e = cc
          right false y e = e

  away : (v : ℕ) (code_of : ℕ) (ls : List ℕ) → code_of / 2 ≡ v → v < width z → AllByRecursion (IsOther code_of) (against ls)
  away v m [] e lt = tt
  away v m (l ∷ ls) e lt = (other_variable m _ v (width z + l / 2) e (against_half l) (λ q. omega (arith, q, lt)), away v m ls e lt)

  against_long : (ls : List ℕ) → length (against ls) ≡ length ls
  against_long [] = refl
  against_long (l ∷ ls) = let h = against_long ls in omega (arith, h)

  module _ (a j : ℕ) (la : a < z.actions) (lj : j < z.conditional) where
    abbrev y : ℕ
    y = conditional_at z 0 j

    -- each literal of the condition
    conditions_size : (ls : List ℕ) (rest : List (List Literal)) → literals_in (coded (map (λ c. Not y ∷ literal_over now c ∷ []) ls ++ rest)) ≡ 2 * length ls + literals_in (coded rest)
    conditions_size [] rest = omega arith
    conditions_size (l ∷ ls) rest =
        let h = conditions_size ls rest in
        let c = conditional_is z j in
        let two = two_size (code (Not y)) (code (literal_over now l)) y (width z + l / 2) (coded (map (λ c. Not y ∷ literal_over now c ∷ []) ls ++ rest)) (omega arith) (over_half now l ∙ now_is z (l / 2) h1) (λ q. omega (arith, q, c, lj)) in
        omega (arith, h, two)

    -- the reason
    reason_size : (top : ℕ) (ls : List ℕ) → are_rising top 0 ls ≡ true → literals_in (coded ((Is y ∷ Not (action_at z 0 a) ∷ map (λ c. literal_over now (opposite c)) ls) ∷ [])) ≡ (if has_both ls then 0 else 2 + length ls)
    reason_size top ls r = by (has_both ls) refl
      where
        codes : List ℕ
        codes = (2 * y) ∷ (2 * action_at z 0 a + 1) ∷ against ls

        by : (b : Bool) → has_both ls ≡ b → literals_in (coded ((Is y ∷ Not (action_at z 0 a) ∷ map (λ c. literal_over now (opposite c)) ls) ∷ [])) ≡ (if b then 0 else 2 + length ls)
        by true b =
            let x = both top 0 ls r b in
            let one : Among (code (literal_over now (opposite x.one))) (against ls) = among_map code (map (λ c. literal_over now (opposite c)) ls) (literal_over now (opposite x.one)) (among_map (λ c. literal_over now (opposite c)) ls x.one x.among) in
            let two : Among (code (literal_over now (opposite (opposite x.one)))) (against ls) = among_map code (map (λ c. literal_over now (opposite c)) ls) (literal_over now (opposite (opposite x.one))) (among_map (λ c. literal_over now (opposite c)) ls (opposite x.one) x.other) in
            pair_size codes [] (has_pair codes (code (literal_over now (opposite x.one))) (inr (inr one)) (inr (inr (subst (λ (k : ℕ). Among k (against ls)) (over_opposite now (opposite x.one)) two))))
        by false b =
            let c = conditional_is z j in
            let k = act_is z a in
            let first : IsOther (2 * y) (2 * action_at z 0 a + 1) = other_variable _ _ y a (omega arith) (omega (arith, k)) (λ q. omega (arith, q, c, la)) in
            let n = against_long ls in
            let s = apart_size codes [] ((first, away y (2 * y) ls (omega arith) (omega (arith, c, lj))), (away a (2 * action_at z 0 a + 1) ls (omega (arith, k)) (omega (arith, la)), against_apart top 0 ls r b)) in
            omega (arith, s, n)

    conditional_size : (top : ℕ) (ls : List ℕ) → are_rising top 0 ls ≡ true → literals_in (coded (meaning z a y ls)) ≡ 2 + 2 * length ls + (if has_both ls then 0 else 2 + length ls)
    conditional_size top ls r =
        let c = conditional_is z j in
        let k = act_is z a in
        let first = two_size (code (Not y)) (code (Is (action_at z 0 a))) y a (coded (map (λ c. Not y ∷ literal_over now c ∷ []) ls ++ (Is y ∷ Not (action_at z 0 a) ∷ map (λ c. literal_over now (opposite c)) ls) ∷ [])) (omega arith) (omega (arith, k)) (λ q. omega (arith, q, c, la)) in
        let next = conditions_size ls ((Is y ∷ Not (action_at z 0 a) ∷ map (λ c. literal_over now (opposite c)) ls) ∷ []) in
        let last = reason_size top ls r in
        omega (arith, first, next, last)

-- what an effect's variable means
pub meaning_literals : (z : Layout) (a j facts : ℕ) (e : Effect) → z.horizon ≡ 1 → a < z.actions → (is_conditional e ≡ true → j < z.conditional) → is_literal_set facts e.condition ≡ true → literals_in (coded (meaning_clauses (action_at z 0) (fact_at z 0) (variable_at z 0) (row_of a j e))) ≡ meaning_size e
meaning_literals z a j facts e h la lj r = by (is_conditional e) lj
  where
    by : (b : Bool) → (b ≡ true → j < z.conditional) → literals_in (coded (if b then meaning z a (if b then conditional_at z 0 j else action_at z 0 a) e.condition else [])) ≡ (if b then 2 + 2 * length e.condition + (if has_both e.condition then 0 else 2 + length e.condition) else 0)
    by true l = conditional_size z h a j la (l refl) (2 * facts) e.condition r
    by false l = refl
