use Rattle.std.proofs.Common.{arith, ◌≡◌, ◌==◌, ℕ, ◌+◌, ◌*◌, ◌/◌, ◌<◌, ◌≤◌, List, [], ◌∷◌, ◌++◌, length, Bool, true, false, ◌||◌, ◌&&◌, refl, sym, ap, ◌∙◌, if◌then◌else◌, ◌⊎◌, inl, inr}
use Rattle.std.specs.List.{flat_map}
use Rattle.gt_core.specs.Literal.{opposite, holds, all_hold, range}
use Rattle.gt_core.specs.Task.{Task, EffectOf, effects, precondition, initial_state}
use Rattle.gt_core.specs.Interference.{disables, Knows, takes, reads}
use Rattle.gt_core.specs.Step.{IsStep}
use Rattle.gt_core.specs.Published.{Pairwise}
use Rattle.formula_defs.specs.Layout.{Layout, action_at, conditional_at, chain_at, fact_at}
use Rattle.gt_core.proofs.published.Basics.{apart, Among, all_at, all_from, each_at, each_from, any_same, all_same, or_split, or_left, or_right, not_false, not_true, test_same}
use Rattle.gt_core.proofs.published.Literals.{holds_same, below_range}
use Rattle.formula_defs.specs.Clause.{Is, Not, clause_true, AllTrue}
use Rattle.formula_defs.specs.Chain.{enter_clauses, pass_clauses}
use Rattle.formula_defs.specs.Variables.{Row, rows, has_condition, Chain, chains_from, chains, layout_of, variable_at}
use Rattle.formula_defs.specs.Formula.{literal_over, precondition_clauses, effect_clauses, frame_clauses, chain_clauses, step_clauses, initial_clauses, goal_clauses, is_single, pair_clause, pair_clauses, clauses_of_horizon}
use Rattle.formula_defs.proofs.published.Satisfied.{joined, satisfied_all, satisfied_map_all}
use Rattle.step_laws.proofs.StepLaw.{is_effective, StepHolds, StepMeans, step_holds}
use Rattle.step_laws.proofs.StepClauses.{over, effect_of_row, Means, unconditional, hold_clauses, preconditions_write}
use Rattle.step_laws.proofs.ChainLaw.{NoneBefore, enter_holds, pass_holds}
use Rattle.gt_core.specs.Execution.{IsGoal}
use Rattle.formula_defs.proofs.published.InRange.{IsInRange, past}
use Rattle.formula_defs.proofs.published.Counts.{conditional_count}
use Rattle.step_laws.proofs.Assignment.{Agrees, at, at_agrees, agrees_within, conditional_values, length-conditional_values, conditional_value, chain_values, length-chain_values, chain_at_place, has_chain_values, values, at_action, at_conditional, at_chain, at_fact}
use Rattle.gt_core.proofs.published.RunLaw.{disables_over}

-- the members of each place differ, and none in the step disables a later one
abbrev pub AreApart : Task → List (List ℕ × ℕ) → (ℕ → Bool) → Type 0
AreApart task places step = (ks : List ℕ) (m : ℕ) → Among {A = List ℕ × ℕ} (ks, m) places → Pairwise (λ a b. ((a == b) ≡ false) × (step a ≡ true → step b ≡ true → disables task a b ≡ false)) ks

module _ (task : Task) (pairs : List (ℕ × ℕ)) (places : List (List ℕ × ℕ)) (order : List ℕ) (n : ℕ) (range_of : IsInRange task pairs places) (steps states : ℕ → ℕ → Bool) where
  abbrev z : Layout
  z = layout_of task places n

  abbrev of_conditionals : ℕ → List Bool
  of_conditionals t = conditional_values (is_effective (steps t) (states t)) (effects task)

  abbrev of_chains : ℕ → List Bool
  of_chains t = chain_values task (steps t) places

  abbrev pub v : ℕ → Bool
  v = values z steps of_conditionals of_chains states

  v_action : (t a : ℕ) → t < n → a < length task.actions → v (action_at z t a) ≡ steps t a
  v_action t a lt la = at_action z steps of_conditionals of_chains states t a lt la

  pub v_fact : (t f : ℕ) → f < task.facts → v (fact_at z t f) ≡ states t f
  v_fact t f lf = at_fact z steps of_conditionals of_chains states t f lf

  pub v_holds : (t l : ℕ) → l / 2 < task.facts → holds (λ f. v (fact_at z t f)) l ≡ holds (states t) l
  v_holds t l h = holds_same (λ f. v (fact_at z t f)) (states t) l (v_fact t (l / 2) h)

  v_active : (t : ℕ) → t < n → (e : EffectOf) → Among e (effects task) → is_effective (λ a. v (action_at z t a)) (λ f. v (fact_at z t f)) e ≡ is_effective (steps t) (states t) e
  v_active t lt e a =
      let x = v_action t e.action lt (range_of.effect_actions e a) in
      let y = all_same (holds (λ f. v (fact_at z t f))) (holds (states t)) e.condition (λ c i. v_holds t c (range_of.conditions e a c i)) in
      rw (x, y)

  conditional_agrees : (t : ℕ) → t < n → Agrees (λ j. v (conditional_at z t j)) 0 (of_conditionals t)
  conditional_agrees t lt =
      let l = length-conditional_values (is_effective (steps t) (states t)) (effects task) ∙ conditional_count task in
      agrees_within (at (of_conditionals t)) _ 0 (of_conditionals t) (λ k i h. at_conditional z steps of_conditionals of_chains states t k lt (omega arith)) (at_agrees (of_conditionals t))

  chain_agrees : (t : ℕ) → t < n → Agrees (λ c. v (chain_at z t c)) 0 (of_chains t)
  chain_agrees t lt =
      let l = length-chain_values task (steps t) places in
      agrees_within (at (of_chains t)) _ 0 (of_chains t) (λ k i h. at_chain z steps of_conditionals of_chains states t k lt (omega arith)) (at_agrees (of_chains t))

  means_by : (t : ℕ) → t < n → (r : Row) → Among r (rows task) → (b : Bool) → has_condition r.effect ≡ b → v (if b then conditional_at z t r.number else action_at z t r.effect.action) ≡ is_effective (steps t) (states t) r.effect
  means_by t lt r a true e = conditional_value (λ j. v (conditional_at z t j)) (is_effective (steps t) (states t)) (effects task) 0 (conditional_agrees t lt) r a e
  means_by t lt r a false e =
      v_action t r.effect.action lt (range_of.effect_actions r.effect (effect_of_row 0 (effects task) r a))
      ∙ sym (and_true (steps t r.effect.action) _ (unconditional v (action_at z t) (fact_at z t) (fact_at z (t + 1)) (variable_at z t) (states t) r.effect.condition e))
    where
      and_true : (a b : Bool) → b ≡ true → (a && b) ≡ a
      and_true true b f = f
      and_true false b f = refl

  v_means : (t : ℕ) → t < n → Means v (action_at z t) (fact_at z t) (fact_at z (t + 1)) (variable_at z t) (rows task)
  v_means t lt r a = means_by t lt r a (has_condition r.effect) refl ∙ sym (v_active t lt r.effect (effect_of_row 0 (effects task) r a))

  -- what holds of the plan's step holds of the assignment's
  v_step : (t : ℕ) → t < n → StepHolds task (steps t) (states t) (states (t + 1)) → StepHolds task (λ a. v (action_at z t a)) (λ f. v (fact_at z t f)) (λ f. v (fact_at z (t + 1) f))
  v_step t lt h = record {
    results = λ e a x. elim (h.results e a (sym (v_active t lt e a) ∙ x)) [
      | inl y ↦ inl (v_holds (t + 1) e.literal (range_of.effect_facts e a) ∙ y)
      | inr y ↦ inr (y.0, any_same _ (λ d. ((d.action == e.action) && (d.literal == opposite e.literal)) && is_effective (steps t) (states t) d) (effects task) (λ d i. ap (λ (b : Bool). ((d.action == e.action) && (d.literal == opposite e.literal)) && b) (v_active t lt d i)) ∙ y.1)
    ];
    stays_true = λ f lf x y. any_same _ (λ e. (e.literal == 2 * f + 1) && is_effective (steps t) (states t) e) (effects task) (λ d i. ap (λ (b : Bool). (d.literal == 2 * f + 1) && b) (v_active t lt d i)) ∙ h.stays_true f lf (sym (v_fact t f lf) ∙ x) (sym (v_fact (t + 1) f lf) ∙ y);
    stays_false = λ f lf x y. any_same _ (λ e. (e.literal == 2 * f) && is_effective (steps t) (states t) e) (effects task) (λ d i. ap (λ (b : Bool). (d.literal == 2 * f) && b) (v_active t lt d i)) ∙ h.stays_false f lf (sym (v_fact t f lf) ∙ x) (sym (v_fact (t + 1) f lf) ∙ y);
  }

  runs_by : (t a : ℕ) → t < n → IsStep task order (states t) (steps t) (states (t + 1)) → ((a < length task.actions) ⊎ (precondition task a ≡ [])) → v (action_at z t a) ≡ true → all_hold (λ f. v (fact_at z t f)) (precondition task a) ≡ true
  runs_by t a lt s (inl la) x =
      all_from _ (precondition task a) (λ l i. v_holds t l (range_of.preconditions a l i) ∙ all_at (holds (states t)) (precondition task a) l (s.runs a (sym (v_action t a lt la) ∙ x)).able i)
  runs_by t a lt s (inr none) x = rw none

  chain_step : (t : ℕ) → t < n → AreApart task places (steps t) → AllTrue v (chain_clauses (action_at z t) (chain_at z t) task (chains task places))
  chain_step t lt parts =
      satisfied_all v (λ c. enter_clauses (action_at z t) (chain_at z t) (takes task c.literal) (reads task c.literal) false c.first c.members ++ pass_clauses (action_at z t) (chain_at z t) (takes task c.literal) (reads task c.literal) false c.first c.members) (chains task places) (λ c i.
      let m = member_of places 0 c i in
      let ks = c.members in
      let tk = takes task c.literal in
      let rd = reads task c.literal in
      let same : (k : ℕ) → Among k ks → v (action_at z t k) ≡ steps t k = λ k j. v_action t k lt (range_of.members (ks, c.literal) m k j) in
      let h = has_chain_values v (steps t) (action_at z t) (chain_at z t) tk rd ks same false false c.first (chain_at_place task (steps t) (λ c. v (chain_at z t c)) places 0 (chain_agrees t lt) c i) in
      let none = none_before t c.literal ks same (parts ks c.literal m) in
      joined v (enter_clauses (action_at z t) (chain_at z t) tk rd false c.first ks) _
      (enter_holds v (action_at z t) (chain_at z t) tk rd false false c.first ks h)
      (pass_holds v (action_at z t) (chain_at z t) tk rd false false c.first ks h (λ e. absurd (cc)) none))
    where
      member_of : (ps : List (List ℕ × ℕ)) (first : ℕ) (c : Chain) → Among c (chains_from task first ps) → Among {A = List ℕ × ℕ} (c.members, c.literal) ps
      member_of [] first c i = absurd i
      member_of (p ∷ ps) first c (inl e) = inl (ap (λ (d : Chain). (d.members, d.literal)) e)
      member_of (p ∷ ps) first c (inr i) = inr (member_of ps _ c i)

      none_before : (t m : ℕ) (ks : List ℕ) → ((k : ℕ) → Among k ks → v (action_at z t k) ≡ steps t k) → Pairwise (λ a b. ((a == b) ≡ false) × (steps t a ≡ true → steps t b ≡ true → disables task a b ≡ false)) ks → NoneBefore v (action_at z t) (chain_at z t) (takes task m) (reads task m) ks
      none_before t m [] same o = tt
      none_before t m (k ∷ ks) same o = (
        each_from _ ks (λ b i tk ak rb.
            let h = each_at _ ks b o.0 i in
            not_true _ (λ ab. apart (disables task k b) (disables_over task m k b h.0 tk rb) (h.1 (sym (same k (inl refl)) ∙ ak) (sym (same b (inr i)) ∙ ab)))),
        none_before t m ks (λ j a. same j (inr a)) o.1,
      )

  -- a step of the plan satisfies the clauses of the step
  pub step_satisfied : (t : ℕ) → t < n → IsStep task order (states t) (steps t) (states (t + 1)) → AreApart task places (steps t) → AllTrue v (step_clauses z task places t)
  step_satisfied t lt s parts =
      let act = action_at z t in
      let now = fact_at z t in
      let later = fact_at z (t + 1) in
      let var = variable_at z t in
      let means : StepMeans task (steps t) (states t) (states (t + 1)) = record { no_clash = s.no_clash; after = s.after } in
      let both = hold_clauses v act now later var task (v_means t lt) (v_step t lt (step_holds task (steps t) (states t) (states (t + 1)) range_of.effect_facts means)) in
      joined v (precondition_clauses act now 0 task.actions) _
      (preconditions_write v act now later var 0 task.actions (λ k x. let e : 0 + k ≡ k = omega arith in runs_by t k lt s (past task.actions k) (ap (λ (m : ℕ). v (act m)) (sym e) ∙ x)))
      (joined v (effect_clauses act now later var (rows task) (rows task)) _ both.0
      (joined v (frame_clauses now later var (rows task) (range task.facts)) _ both.1 (chain_step t lt parts)))

  initial_by : (f : ℕ) (b : Bool) → v (fact_at z 0 f) ≡ b → clause_true v ((if b then Is (fact_at z 0 f) else Not (fact_at z 0 f)) ∷ []) ≡ true
  initial_by f true e = or_left _ _ e
  initial_by f false e = or_left _ _ (not_false _ e)

  pub pair_by : (t l m : ℕ) (b c : Bool) → (l == m) ≡ b → (holds (λ f. v (fact_at z t f)) l || holds (λ f. v (fact_at z t f)) m) ≡ true → AllTrue v (if b then (literal_over (fact_at z t) l ∷ []) ∷ [] else if c then [] else (literal_over (fact_at z t) l ∷ literal_over (fact_at z t) m ∷ []) ∷ [])
  pair_by t l m true c e h = (or_left _ _ (over v (fact_at z t) l ∙ elim (or_split _ _ h) [ inl x ↦ x | inr x ↦ ap (holds (λ f. v (fact_at z t f))) (test_same _ _ e) ∙ x ]), tt)
  pair_by t l m false true e h = tt
  pair_by t l m false false e h = (elim (or_split _ _ h) [ inl x ↦ or_left _ _ (over v (fact_at z t) l ∙ x) | inr x ↦ or_right _ _ (or_left _ _ (over v (fact_at z t) m ∙ x)) ], tt)

  hopeful_by : (b : Bool) → b ≡ false → AllTrue v (if b then [] ∷ [] else [])
  hopeful_by true e = cc
  hopeful_by false e = tt

  -- a step plan's assignment satisfies the formula
  pub plan_satisfies : ((f : ℕ) → f < task.facts → states 0 f ≡ initial_state task f) → ((t : ℕ) → t < n → IsStep task order (states t) (steps t) (states (t + 1))) → ((t : ℕ) → t < n → AreApart task places (steps t)) → IsGoal task (states n) → ((t : ℕ) → t ≤ n → Knows pairs (states t)) → AllTrue v (clauses_of_horizon task pairs places n)
  plan_satisfies begins leads parts goal knows =
      joined v (initial_clauses z task) _
      (satisfied_map_all v (λ f. (if initial_state task f then Is (fact_at z 0 f) else Not (fact_at z 0 f)) ∷ []) (range task.facts) (λ f i. initial_by f (initial_state task f) (v_fact 0 f (below_range task.facts f i) ∙ begins f (below_range task.facts f i))))
      (joined v (goal_clauses z task) _
      (joined v (if task.hopeless then [] ∷ [] else []) _ (hopeful_by task.hopeless goal.hopeful)
      (satisfied_map_all v (λ l. literal_over (fact_at z n) l ∷ []) task.goal (λ l i. or_left _ _ (over v (fact_at z n) l ∙ v_holds n l (range_of.goals l i) ∙ all_at (holds (states n)) task.goal l goal.reached i))))
      (joined v (flat_map (step_clauses z task places) (range n)) _
      (satisfied_all v (step_clauses z task places) (range n) (λ t i. let lt = below_range n t i in step_satisfied t lt (leads t lt) (parts t lt)))
      (satisfied_all v (pair_clauses z pairs) (range (n + 1)) (λ t i.
      let lt = below_range (n + 1) t i in
      satisfied_all v (pair_clause (fact_at z t) pairs) pairs (λ p j.
      let b = range_of.known p j in
      let h = each_at _ pairs p (knows t (omega arith)) j in
      let x = v_holds t p.0 b.0 in
      let y = v_holds t p.1 b.1 in
      pair_by t p.0 p.1 (p.0 == p.1) (is_single pairs p.0 || is_single pairs p.1) refl (rw (x, y) h))))))
