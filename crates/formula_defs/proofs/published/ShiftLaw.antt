use Rattle.std.proofs.Common.{arith, ◌≡◌, ℕ, ◌+◌, ◌-◌, ◌*◌, ◌<◌, ◌≤◌, List, [], ◌∷◌, map, length, Bool, true, false, refl, sym, ap, ◌∙◌, if◌then◌else◌, ◌⊎◌, inl, inr}
use Rattle.std.specs.List.{filter, flat_map}
use Rattle.std.proofs.lemmas.Nat.{row_fits}
use Rattle.gt_core.specs.Task.{Task, EffectOf, effects}
use Rattle.formula_defs.specs.Layout.{Layout, width, action_at, conditional_at, chain_at, fact_at}
use Rattle.gt_core.proofs.published.Basics.{Among, apart}
use Rattle.clause_base.proofs.published.Moved.{moved_below, moved_above, moved_rises, moved_turns}
use Rattle.formula_defs.specs.Variables.{Row, rows, rows_from, has_condition, layout_of, variable_at}
use Rattle.formula_defs.specs.Formula.{step_clauses, pair_clause, pair_clauses}
use Rattle.formula_defs.specs.Coded.{coded}
use Rattle.formula_defs.specs.Shift.{moved_code, one_step, one_time}
use Rattle.formula_defs.proofs.published.Counts.{conditional_count}
use Rattle.formula_defs.proofs.published.InRange.{IsInRange}
use Rattle.formula_defs.proofs.Alike.{NamesAlike, effect_of_row, step_alike, known_alike}
use Rattle.formula_defs.proofs.Renamed.{coded_renamed}

-- The clauses of each step and of each time are those of one, moved.

pub number_below : (es : List EffectOf) (j : ℕ) (r : Row) → Among r (rows_from j es) → has_condition r.effect ≡ true → r.number < j + length (filter has_condition es)
number_below [] j r i c = absurd i
number_below (e ∷ es) j r i c = by (has_condition e) refl i (λ k l. number_below es k r l c)
  where
    by : (b : Bool) → has_condition e ≡ b → (r ≡ record { effect = e; number = j }) ⊎ Among r (rows_from (if b then j + 1 else j) es) → ((k : ℕ) → Among r (rows_from k es) → r.number < k + length (filter has_condition es)) → r.number < j + length (if b then e ∷ filter has_condition es else filter has_condition es)
    by true x (inl s) on = let m : r.number ≡ j = ap (λ (x : Row). x.number) s in omega arith
    by true x (inr l) on = let m = on (j + 1) l in omega arith
    by false x (inl s) on = absurd (let m : has_condition e ≡ true = sym (ap (λ (x : Row). has_condition x.effect) s) ∙ c in apart (has_condition e) m x)
    by false x (inr l) on = on j l

sum_left : (m k s x : ℕ) → m ≡ s + k → x ≡ 2 * s + 2 * k → 2 * m ≡ x
sum_left m k s x e h = omega arith

sum_left_odd : (m k s x : ℕ) → m ≡ s + k → x ≡ 2 * s + (2 * k + 1) → 2 * m + 1 ≡ x
sum_left_odd m k s x e h = omega arith

sum_right : (m k w f x : ℕ) → w ≤ k → m ≡ f + (k - w) → x ≡ 2 * f + (2 * k - 2 * w) → 2 * m ≡ x
sum_right m k w f x l e h = omega arith

sum_right_odd : (m k w f x : ℕ) → w ≤ k → m ≡ f + (k - w) → x ≡ 2 * f + (2 * k + 1 - 2 * w) → 2 * m + 1 ≡ x
sum_right_odd m k w f x l e h = omega arith

first_fact : (w facts f : ℕ) → w ≤ 1 * w + 0 * facts + f
first_fact w facts f = omega arith

later_fact : (w facts f : ℕ) → w ≤ 1 * w + 1 * facts + f
later_fact w facts f = omega arith

at_now : (w facts rows t f : ℕ) → rows + t * facts + f ≡ rows + t * facts + ((1 * w + 0 * facts + f) - w)
at_now w facts rows t f = omega arith

at_later : (w facts rows t f : ℕ) → rows + (t + 1) * facts + f ≡ rows + t * facts + ((1 * w + 1 * facts + f) - w)
at_later w facts rows t f = let h : (t + 1) * facts ≡ t * facts + facts = omega arith in omega arith

module _ (task : Task) (pairs : List (ℕ × ℕ)) (places : List (List ℕ × ℕ)) (n : ℕ) (is : IsInRange task pairs places) where
  abbrev z : Layout
  z = layout_of task places n

  abbrev z1 : Layout
  z1 = layout_of task places 1

  abbrev IsMoved : ℕ → ℕ → ℕ → Type 0
  IsMoved t k m = ((k < width z) × (m ≡ t * width z + k)) ⊎ ((width z ≤ k) × (m ≡ n * width z + t * task.facts + (k - width z)))

  positive : (t k m : ℕ) → IsMoved t k m → 2 * m ≡ moved_code (width z) (t * width z) (n * width z + t * task.facts) (2 * k)
  positive t k m (inl h) = let x = moved_below (width z) (t * width z) (n * width z + t * task.facts) (2 * k) (let a = h.0 in omega arith) in sum_left m k (t * width z) _ h.1 x
  positive t k m (inr h) = let x = moved_above (width z) (t * width z) (n * width z + t * task.facts) (2 * k) (let a = h.0 in omega arith) in sum_right m k (width z) (n * width z + t * task.facts) _ h.0 h.1 x

  negative : (t k m : ℕ) → IsMoved t k m → 2 * m + 1 ≡ moved_code (width z) (t * width z) (n * width z + t * task.facts) (2 * k + 1)
  negative t k m (inl h) = let x = moved_below (width z) (t * width z) (n * width z + t * task.facts) (2 * k + 1) (let a = h.0 in omega arith) in sum_left_odd m k (t * width z) _ h.1 x
  negative t k m (inr h) = let x = moved_above (width z) (t * width z) (n * width z + t * task.facts) (2 * k + 1) (let a = h.0 in omega arith) in sum_right_odd m k (width z) (n * width z + t * task.facts) _ h.0 h.1 x

  names : (t : ℕ) → NamesAlike (IsMoved t) task places (action_at z1 0) (action_at z t) (fact_at z1 0) (fact_at z t) (fact_at z1 1) (fact_at z (t + 1)) (chain_at z1 0) (chain_at z t) (variable_at z1 0) (variable_at z t)
  names t = record {
    actions = act;
    before = λ f lt. inr (first_fact (width z) task.facts f, at_now (width z) task.facts (n * width z) t f);
    after = λ f lt. inr (later_fact (width z) task.facts f, at_later (width z) task.facts (n * width z) t f);
    effects = λ r i. var_by r i (has_condition r.effect) refl;
    chains = λ c lt. inl (omega arith, omega arith);
  }
    where
      act : (a : ℕ) → a < length task.actions → IsMoved t (action_at z1 0 a) (action_at z t a)
      act a lt = inl (omega arith, omega arith)

      var_by : (r : Row) → Among r (rows task) → (b : Bool) → has_condition r.effect ≡ b → IsMoved t (if b then conditional_at z1 0 r.number else action_at z1 0 r.effect.action) (if b then conditional_at z t r.number else action_at z t r.effect.action)
      var_by r i true e =
          let h = number_below (effects task) 0 r i e in
          let c = conditional_count task in
          inl (omega arith, omega arith)
      var_by r i false e = act r.effect.action (is.effect_actions r.effect (effect_of_row 0 (effects task) r i))

  -- the clauses of step t
  pub step_moved : (t : ℕ) → t < n → coded (step_clauses z task places t) ≡ map (map (moved_code (width z) (t * width z) (n * width z + t * task.facts))) (one_step task places)
  step_moved t lt =
      coded_renamed (moved_code (width z) (t * width z) (n * width z + t * task.facts))
      (moved_rises (width z) (t * width z) (n * width z + t * task.facts) (room t lt)) (moved_turns (width z) (t * width z) (n * width z + t * task.facts))
      (IsMoved t) (positive t) (negative t) (step_clauses z1 task places 0) (step_clauses z task places t)
      (step_alike (IsMoved t) task pairs places is (action_at z1 0) (action_at z t) (fact_at z1 0) (fact_at z t) (fact_at z1 1) (fact_at z (t + 1)) (chain_at z1 0) (chain_at z t) (variable_at z1 0) (variable_at z t) (names t))
    where
      room : (t : ℕ) → t < n → t * width z + width z ≤ n * width z + t * task.facts
      room t lt = let h = row_fits t (width z) n (width z) lt (omega arith) in omega arith

  -- the known pairs of time t
  pub known_moved : (t : ℕ) → coded (pair_clauses z pairs t) ≡ map (map (moved_code 0 0 (n * width z + t * task.facts))) (one_time pairs)
  known_moved t =
      let start = n * width z + t * task.facts in
      coded_renamed (moved_code 0 0 start) (moved_rises 0 0 start (omega arith)) (moved_turns 0 0 start)
      (λ k m. m ≡ start + k)
      (λ k m e. let x = moved_above 0 0 start (2 * k) (omega arith) in omega arith)
      (λ k m e. let x = moved_above 0 0 start (2 * k + 1) (omega arith) in omega arith)
      (flat_map (pair_clause (λ f. f) pairs) pairs) (pair_clauses z pairs t)
      (known_alike (λ k m. m ≡ start + k) task pairs places is (λ f. f) (fact_at z t) (λ f lt. refl))
