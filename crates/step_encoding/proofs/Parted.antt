use Rattle.std.proofs.Common.{arith, ◌≡◌, ℕ, zero, suc, ◌+◌, ◌*◌, ◌<◌, ◌≤◌, List, [], ◌∷◌, ◌++◌, map, length, refl, sym, ap, ◌∙◌, if◌then◌else◌, inl, inr}
use Rattle.std.specs.List.{flat_map}
use Rattle.std.proofs.Math.Nat.{mul-le-mul_left}
use Rattle.gt_core.specs.Literal.{range}
use Rattle.gt_core.specs.Task.{Task}
use Rattle.formula_defs.specs.Layout.{Layout, width, variables, fact_at}
use Rattle.gt_core.proofs.published.Basics.{Among}
use Rattle.gt_core.proofs.published.Literals.{below_range}
use Rattle.clause_base.specs.Formula.{Cnf}
use Rattle.formula_defs.specs.Clause.{code}
use Rattle.formula_defs.specs.Variables.{layout_of}
use Rattle.formula_defs.specs.Formula.{literal_over, initial_clauses, goal_clauses, step_clauses, pair_clauses}
use Rattle.formula_defs.specs.Coded.{coded, literals_in, formula_of}
use Rattle.formula_defs.specs.Shift.{one_step, one_time}
use Rattle.formula_defs.proofs.published.InRange.{IsInRange}
use Rattle.formula_defs.proofs.published.SizeLaw.{size_law}
use Rattle.formula_defs.proofs.published.FewLaw.{step_few, time_few}
use Rattle.step_encoding.specs.Limits.{most_literals}
use Rattle.step_encoding.specs.own.Parts.{step_part, time_part, StepsFit, TimesFit}
use Rattle.step_encoding.proofs.Parts.{goal_parts}
use Rattle.step_encoding.proofs.Whole.{whole_parts, step_added, step_fits, time_added, time_fits}

-- A formula from the clauses of one step and of one time.

flat_same : (g h : ℕ → List (List ℕ)) (xs : List ℕ) → ((t : ℕ) → Among t xs → g t ≡ h t) → flat_map g xs ≡ flat_map h xs
flat_same g h [] e = refl
flat_same g h (x ∷ xs) e = ap (λ (r : List (List ℕ)). r ++ flat_map g xs) (e x (inl refl)) ∙ ap (λ (r : List (List ℕ)). h x ++ r) (flat_same g h xs (λ t a. e t (inr a)))

abbrev whole : Layout → Task → List (List ℕ) → List (List ℕ) → Cnf
whole z task steps times = record {
  name = z.horizon;
  variables = variables z;
  clauses = coded (initial_clauses z task)
      ++ (((if task.hopeless then [] ∷ [] else []) ++ map (λ l. code (literal_over (fact_at z z.horizon) l) ∷ []) task.goal)
      ++ (flat_map (step_part z steps) (range z.horizon) ++ flat_map (time_part z times) (range (z.horizon + 1))));
}

module _ (task : Task) (pairs : List (ℕ × ℕ)) (places : List (List ℕ × ℕ)) (in_range : IsInRange task pairs places) (n : ℕ) where
  abbrev zn : Layout
  zn = layout_of task places n

  same_steps : flat_map (step_part zn (one_step task places)) (range n) ≡ flat_map (λ t. coded (step_clauses zn task places t)) (range n)
  same_steps = flat_same _ _ (range n) (λ t a. step_added task pairs places in_range zn n refl t (width zn) (t * width zn) (n * width zn + t * zn.facts) (one_step task places) (below_range n t a) refl refl refl refl)

  same_times : flat_map (time_part zn (one_time pairs)) (range (n + 1)) ≡ flat_map (λ t. coded (pair_clauses zn pairs t)) (range (n + 1))
  same_times = flat_same _ _ (range (n + 1)) (λ t a. time_added task pairs places in_range zn n refl t 0 0 (n * width zn + t * zn.facts) (one_time pairs) refl refl refl refl)

  joined : whole zn task (one_step task places) (one_time pairs) ≡ formula_of task pairs places n
  joined =
      ap (λ (cs : List (List ℕ)). record { name = n; variables = variables zn; clauses = cs })
      (ap (λ (r : List (List ℕ)). coded (initial_clauses zn task) ++ (r ++ (flat_map (step_part zn (one_step task places)) (range n) ++ flat_map (time_part zn (one_time pairs)) (range (n + 1))))) (sym (goal_parts zn task))
      ∙ ap (λ (r : List (List ℕ)). coded (initial_clauses zn task) ++ (coded (goal_clauses zn task) ++ (r ++ flat_map (time_part zn (one_time pairs)) (range (n + 1))))) same_steps
      ∙ ap (λ (r : List (List ℕ)). coded (initial_clauses zn task) ++ (coded (goal_clauses zn task) ++ (flat_map (λ t. coded (step_clauses zn task places t)) (range n) ++ r))) same_times
      ∙ sym (whole_parts task pairs places n))

  -- with no step, the clauses of one do not matter
  same_whole : (steps : List (List ℕ)) (m : ℕ) → m ≡ n → (0 < m → steps ≡ one_step task places) → flat_map (step_part zn steps) (range m) ≡ flat_map (step_part zn (one_step task places)) (range m)
  same_whole steps zero e h = refl
  same_whole steps (suc m) e h = ap (λ (x : List (List ℕ)). flat_map (step_part zn x) (range (suc m))) (h (omega arith))

  pub formula_from : (z : Layout) (t : Task) (steps times : List (List ℕ)) (f : Cnf) → z ≡ layout_of task places n → t ≡ task → (0 < n → steps ≡ one_step task places) → times ≡ one_time pairs → f ≡ whole z t steps times → f ≡ formula_of task pairs places n
  formula_from z t steps times f ez et es ek h =
      h ∙ ap (λ (x : Layout). whole x t steps times) ez
      ∙ ap (λ (x : Task). whole zn x steps times) et
      ∙ ap (λ (r : List (List ℕ)). record { name = n; variables = variables zn; clauses = coded (initial_clauses zn task) ++ (((if task.hopeless then [] ∷ [] else []) ++ map (λ l. code (literal_over (fact_at zn n) l) ∷ []) task.goal) ++ (r ++ flat_map (time_part zn times) (range (n + 1)))) }) (same_whole steps n refl es)
      ∙ ap (λ (x : List (List ℕ)). whole zn task (one_step task places) x) ek
      ∙ joined

  pub steps_fit : (z : Layout) (steps : List (List ℕ)) → z ≡ layout_of task places n → (0 < n → steps ≡ one_step task places) → StepsFit z steps (variables z)
  steps_fit z steps e d =
      let h : z.horizon ≡ n = ap (λ (x : Layout). x.horizon) e in
      λ t lt. step_fits task pairs places in_range z n e t (width z) (t * width z) (z.horizon * width z + t * z.facts) (variables z) steps (omega (arith, h, lt)) refl refl (ap (λ (k : ℕ). k * width z + t * z.facts) h) refl (d (omega (arith, h, lt)))

  pub times_fit : (z : Layout) (times : List (List ℕ)) → z ≡ layout_of task places n → times ≡ one_time pairs → TimesFit z times (variables z)
  times_fit z times e d =
      let h : z.horizon ≡ n = ap (λ (x : Layout). x.horizon) e in
      λ t le. time_fits task pairs places in_range z n e t 0 0 (z.horizon * width z + t * z.facts) (variables z) times (omega (arith, h, le)) refl refl (ap (λ (k : ℕ). k * width z + t * z.facts) h) refl d

  steps_few : (steps : List (List ℕ)) (m : ℕ) → m ≡ n → (0 < m → steps ≡ one_step task places) → m * length steps ≤ m * literals_in (one_step task places)
  steps_few steps zero e h = omega arith
  steps_few steps (suc m) e h = mul-le-mul_left (suc m) (let l = ap length (h (omega arith)) in let f = step_few task places in omega arith)

  -- a formula of few literals has few clauses
  pub clauses_few : (z : Layout) (t : Task) (steps times : List (List ℕ)) → z ≡ layout_of task places n → t ≡ task → (0 < n → steps ≡ one_step task places) → times ≡ one_time pairs → literals_in (formula_of task pairs places n).clauses ≤ most_literals → t.facts + 1 + length t.goal + z.horizon * length steps + (z.horizon + 1) * length times ≤ 1073741824
  clauses_few z t steps times ez et es ek small =
      let law = size_law task pairs places n in_range in
      let a = steps_few steps n refl es in
      let b = mul-le-mul_left (n + 1) (let l = ap length ek in let f = time_few pairs in let le : length times ≤ literals_in (one_time pairs) = omega arith in le) in
      let h : z.horizon ≡ n = ap (λ (x : Layout). x.horizon) ez in
      let f : t.facts ≡ task.facts = ap (λ (x : Task). x.facts) et in
      let g : length t.goal ≡ length task.goal = ap (λ (x : Task). length x.goal) et in
      rw (h, f, g) (sum_few task.facts (length task.goal) _ _ _ _ _ law small a b)
    where
      sum_few : (facts goal s k s2 k2 size : ℕ) → size ≡ facts + goal + s + k → size ≤ most_literals → s2 ≤ s → k2 ≤ k → facts + 1 + goal + s2 + k2 ≤ 1073741824
      sum_few facts goal s k s2 k2 size e le x y = omega arith
