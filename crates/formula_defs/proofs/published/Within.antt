use Rattle.std.proofs.Common.{arith, ◌≡◌, ◌==◌, ℕ, ◌+◌, ◌*◌, ◌/◌, ◌<◌, ◌≤◌, List, [], ◌∷◌, map, length, Bool, true, false, refl, fold, if◌then◌else◌, nat_lt, Some, None, All}
use Rattle.std.specs.List.{cons_option, AllByRecursion}
use Rattle.std.proofs.lemmas.Nat.{row_fits}
use Rattle.std.proofs.lemmas.List.Elements.{All-nil, All-cons}
use Rattle.gt_core.specs.Task.{Task, effects}
use Rattle.formula_defs.specs.Layout.{Layout, width, variables, action_at, conditional_at, chain_at, fact_at}
use Rattle.gt_core.proofs.published.Basics.{Among}
use Rattle.clause_base.specs.Clause.{HasVariablesBelow, has_opposite_pair}
use Rattle.containers.specs.Rising.{put}
use Rattle.formula_defs.specs.Clause.{Literal, Is, Not, code}
use Rattle.formula_defs.specs.Variables.{Row, rows, has_condition, layout_of, variable_at}
use Rattle.formula_defs.specs.Formula.{step_clauses, pair_clauses}
use Rattle.formula_defs.specs.Coded.{coded}
use Rattle.formula_defs.proofs.published.Counts.{conditional_count}
use Rattle.formula_defs.proofs.published.InRange.{IsInRange}
use Rattle.formula_defs.proofs.Alike.{Alike, ClauseAlike, NamesAlike, effect_of_row, step_alike, known_alike}
use Rattle.formula_defs.proofs.published.ShiftLaw.{number_below}

-- Every variable of a formula is one of its layout.

put_below : (n : ℕ) (lits : List ℕ) (l : ℕ) → l / 2 < n → AllByRecursion (λ m. m / 2 < n) lits → AllByRecursion (λ m. m / 2 < n) (put lits l)
put_below n [] l h a = (h, tt)
put_below n (m ∷ lits) l h a = by (nat_lt m l) (m == l) (put_below n lits l h a.1)
  where
    by : (b c : Bool) → AllByRecursion (λ k. k / 2 < n) (put lits l) → AllByRecursion (λ k. k / 2 < n) (if b then m ∷ put lits l else if c then m ∷ lits else l ∷ m ∷ lits)
    by true c p = (a.0, p)
    by false true p = a
    by false false p = (h, a)

fold_below : (n : ℕ) (sorted lits : List ℕ) → AllByRecursion (λ m. m / 2 < n) sorted → AllByRecursion (λ m. m / 2 < n) lits → AllByRecursion (λ m. m / 2 < n) (fold put sorted lits)
fold_below n sorted [] a b = a
fold_below n sorted (l ∷ lits) a b = fold_below n (put sorted l) lits (put_below n sorted l b.0 a) b.1

pub all_of : {A : Type 0} (P : A → Type 0) (xs : List A) → AllByRecursion P xs → All P xs
all_of P [] h = All-nil P
all_of P (x ∷ xs) h = All-cons P x xs h.0 (all_of P xs h.1)

-- below a number on the second side
abbrev Below : ℕ → ℕ → ℕ → Type 0
Below n k m = m < n

codes_below : (n : ℕ) (c d : List Literal) → ClauseAlike (Below n) c d → AllByRecursion (λ m. m / 2 < n) (map code d)
codes_below n [] [] h = tt
codes_below n [] (m ∷ d) h = absurd h
codes_below n (k ∷ c) [] h = absurd h
codes_below n (Is k ∷ c) (Is m ∷ d) h = let lt = h.0 in (omega arith, codes_below n c d h.1)
codes_below n (Is k ∷ c) (Not m ∷ d) h = absurd h.0
codes_below n (Not k ∷ c) (Is m ∷ d) h = absurd h.0
codes_below n (Not k ∷ c) (Not m ∷ d) h = let lt = h.0 in (omega arith, codes_below n c d h.1)

coded_below : (n : ℕ) (cs ds : List (List Literal)) → Alike (Below n) cs ds → AllByRecursion (HasVariablesBelow n) (coded ds)
coded_below n [] [] h = tt
coded_below n [] (d ∷ ds) h = absurd h
coded_below n (c ∷ cs) [] h = absurd h
coded_below n (c ∷ cs) (d ∷ ds) h = by (has_opposite_pair (map code d)) (coded_below n cs ds h.1)
  where
    by : (b : Bool) → AllByRecursion (HasVariablesBelow n) (coded ds) → AllByRecursion (HasVariablesBelow n) (cons_option (if b then None else Some (fold put [] (map code d))) (coded ds))
    by true r = r
    by false r = (all_of (λ m. m / 2 < n) (fold put [] (map code d)) (fold_below n [] (map code d) tt (codes_below n c d h.0)), r)

past_rows : (n w t r rest : ℕ) → t < n → r < w → t * w + r < n * w + rest
past_rows n w t r rest lt lr = let h = row_fits t w n w lt (omega arith) in omega arith

in_facts : (rows n facts t f : ℕ) → t ≤ n → f < facts → rows + t * facts + f < rows + (n + 1) * facts
in_facts rows n facts t f le lf = let h = row_fits t facts (n + 1) facts (omega arith) (omega arith) in omega arith

module _ (task : Task) (pairs : List (ℕ × ℕ)) (places : List (List ℕ × ℕ)) (n : ℕ) (is : IsInRange task pairs places) where
  abbrev z : Layout
  z = layout_of task places n

  abbrev top : ℕ
  top = variables z

  act_below : (t a : ℕ) → t < n → a < length task.actions → action_at z t a < top
  act_below t a lt la = past_rows n (width z) t a ((n + 1) * z.facts) lt (omega arith)

  fact_below : (t f : ℕ) → t ≤ n → f < task.facts → fact_at z t f < top
  fact_below t f le lf = in_facts (n * width z) n task.facts t f le lf

  names : (t : ℕ) → t < n → NamesAlike (Below top) task places (action_at z t) (action_at z t) (fact_at z t) (fact_at z t) (fact_at z (t + 1)) (fact_at z (t + 1)) (chain_at z t) (chain_at z t) (variable_at z t) (variable_at z t)
  names t lt = record {
    actions = λ a la. act_below t a lt la;
    before = λ f lf. fact_below t f (omega arith) lf;
    after = λ f lf. fact_below (t + 1) f (omega arith) lf;
    effects = λ r i. var_by r i (has_condition r.effect) refl;
    chains = λ c lc. let p = past_rows n (width z) t (z.actions + z.conditional + c) ((n + 1) * z.facts) lt (omega arith) in omega arith;
  }
    where
      var_by : (r : Row) → Among r (rows task) → (b : Bool) → has_condition r.effect ≡ b → (if b then conditional_at z t r.number else action_at z t r.effect.action) < top
      var_by r i true e =
          let h = number_below (effects task) 0 r i e in
          let c = conditional_count task in
          let p = past_rows n (width z) t (z.actions + r.number) ((n + 1) * z.facts) lt (omega arith) in
          omega arith
      var_by r i false e = act_below t r.effect.action lt (is.effect_actions r.effect (effect_of_row 0 (effects task) r i))

  -- the clauses of a step
  pub step_within : (t : ℕ) → t < n → AllByRecursion (HasVariablesBelow (variables z)) (coded (step_clauses z task places t))
  step_within t lt =
      coded_below top (step_clauses z task places t) (step_clauses z task places t)
      (step_alike (Below top) task pairs places is (action_at z t) (action_at z t) (fact_at z t) (fact_at z t) (fact_at z (t + 1)) (fact_at z (t + 1)) (chain_at z t) (chain_at z t) (variable_at z t) (variable_at z t) (names t lt))

  -- the known pairs of a time
  pub known_within : (t : ℕ) → t ≤ n → AllByRecursion (HasVariablesBelow (variables z)) (coded (pair_clauses z pairs t))
  known_within t le =
      coded_below top (pair_clauses z pairs t) (pair_clauses z pairs t)
      (known_alike (Below top) task pairs places is (fact_at z t) (fact_at z t) (λ f lf. fact_below t f le lf))
