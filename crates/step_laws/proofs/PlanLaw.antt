use Rattle.std.proofs.Common.{arith, ◌≡◌, ◌==◌, ℕ, ◌+◌, ◌<◌, List, [], ◌∷◌, ◌++◌, Bool, true, false, not, ◌||◌, ◌&&◌, refl, sym, ap, ◌∙◌, if◌then◌else◌, inl, inr}
use Rattle.std.specs.List.{flat_map}
use Rattle.gt_core.specs.Literal.{holds, all_hold, range}
use Rattle.gt_core.specs.Task.{Task, precondition, initial_state}
use Rattle.gt_core.specs.Interference.{disables, Knows}
use Rattle.gt_core.specs.Step.{next}
use Rattle.gt_core.specs.Execution.{gains, loses, IsGoal}
use Rattle.gt_core.specs.Published.{Pairwise, order_of, KeepsApart}
use Rattle.formula_defs.specs.Layout.{Layout, action_at, conditional_at, chain_at, fact_at}
use Rattle.gt_core.proofs.published.Basics.{passing, all_from, each_from, or_split, or_left, or_right, and_split, same_test, test_same}
use Rattle.gt_core.proofs.published.Literals.{among_range}
use Rattle.gt_core.proofs.published.Pairwise.{pairwise_flat}
use Rattle.formula_defs.specs.Clause.{Is, Not, truth, clause_true, AllTrue}
use Rattle.formula_defs.specs.Variables.{Row, rows, has_condition, chains, chain_places, layout_of, variable_at}
use Rattle.formula_defs.specs.Formula.{literal_over, precondition_clauses, effect_clauses, frame_clauses, chain_clauses, step_clauses, initial_clauses, goal_clauses, is_single, pair_clause, pair_clauses, clauses_of_horizon}
use Rattle.formula_defs.proofs.published.Satisfied.{parted, satisfied_each, satisfied_map_each}
use Rattle.step_laws.proofs.StepLaw.{step_means}
use Rattle.step_laws.proofs.StepClauses.{over, IsShared, clauses_hold, preconditions_read}
use Rattle.step_laws.proofs.OrderLaw.{AllRun, NoClash, across, within, component_place}
use Rattle.formula_defs.proofs.published.InRange.{HasFacts}

-- what the clauses of a step say of its true actions, of which some may be no actions of the task
pub record LooseStep (task : Task) (order : List ℕ) (s members t : ℕ → Bool) : Type 0 where
  pub runs : (a : ℕ) → members a ≡ true → all_hold s (precondition task a) ≡ true
  pub no_clash : (a b f : ℕ) → members a ≡ true → members b ≡ true → gains task s a f ≡ true → loses task s b f ≡ true → ⊥
  pub ordered : Pairwise (λ a b. members a ≡ true → members b ≡ true → disables task a b ≡ false) order
  pub after : (f : ℕ) → f < task.facts → t f ≡ next task s members f

pub record LoosePlan (task : Task) (order : List ℕ) (steps : ℕ → ℕ → Bool) (n : ℕ) : Type 0 where
  pub states : ℕ → ℕ → Bool
  pub begins : (f : ℕ) → f < task.facts → states 0 f ≡ initial_state task f
  pub leads : (t : ℕ) → t < n → LooseStep task order (states t) (steps t) (states (t + 1))
  pub reaches : IsGoal task (states n)

module _ (task : Task) (pairs : List (ℕ × ℕ)) (places : List (List ℕ × ℕ)) (order : List ℕ) (z : Layout) (v : ℕ → Bool) where
  -- the state and the true actions of a time
  abbrev pub state : ℕ → ℕ → Bool
  state t f = v (fact_at z t f)

  abbrev pub true_actions : ℕ → ℕ → Bool
  true_actions t a = v (action_at z t a)

  shared_by : (t : ℕ) (r : Row) (b : Bool) → b ≡ false → (if b then conditional_at z t r.number else action_at z t r.effect.action) ≡ action_at z t r.effect.action
  shared_by t r true e = cc
  shared_by t r false e = refl

  pub shared : (t : ℕ) (rs : List Row) → IsShared v (action_at z t) (fact_at z t) (fact_at z (t + 1)) (variable_at z t) rs
  shared t rs r a e = shared_by t r (has_condition r.effect) e

  -- what the chains of each step say: no true action disables a later one
  abbrev pub IsOrderedBy : Type 0
  IsOrderedBy = (t : ℕ) → Knows pairs (state t) → AllRun task pairs (true_actions t) (state t) → NoClash task pairs (true_actions t) (state t) → AllTrue v (chain_clauses (action_at z t) (chain_at z t) task (chains task places)) → Pairwise (λ a b. true_actions t a ≡ true → true_actions t b ≡ true → disables task a b ≡ false) order

  -- satisfied clauses of a step are a step
  pub step_of : IsOrderedBy → (t : ℕ) → Knows pairs (state t) → AllTrue v (step_clauses z task places t) → LooseStep task order (state t) (true_actions t) (state (t + 1))
  step_of ordered t k s =
      let act = action_at z t in
      let now = fact_at z t in
      let later = fact_at z (t + 1) in
      let var = variable_at z t in
      let p1 = parted v (precondition_clauses act now 0 task.actions) _ s in
      let p2 = parted v (effect_clauses act now later var (rows task) (rows task)) _ p1.1 in
      let p3 = parted v (frame_clauses now later var (rows task) (range task.facts)) (chain_clauses act (chain_at z t) task (chains task places)) p2.1 in
      let means = step_means task (true_actions t) (state t) (state (t + 1)) (clauses_hold v act now later var task (shared t (rows task)) p2.0 p3.0) in
      let runs : (a : ℕ) → true_actions t a ≡ true → all_hold (state t) (precondition task a) ≡ true = λ a x.
      let e : 0 + a ≡ a = omega arith in preconditions_read v act now later var 0 task.actions p1.0 a (ap (λ (n : ℕ). v (act n)) e ∙ x) in
      record { runs = runs; no_clash = means.no_clash; ordered = ordered t k runs means.no_clash p3.1; after = means.after }

  initial_by : (f : ℕ) (b : Bool) → clause_true v ((if b then Is (fact_at z 0 f) else Not (fact_at z 0 f)) ∷ []) ≡ true → v (fact_at z 0 f) ≡ b
  initial_by f true e = by (v (fact_at z 0 f)) e
    where
      by : (b : Bool) → (b || false) ≡ true → b ≡ true
      by true e = refl
      by false e = e
  initial_by f false e = by (v (fact_at z 0 f)) e
    where
      by : (b : Bool) → (not b || false) ≡ true → b ≡ false
      by true e = sym e
      by false e = refl

  pub begins : AllTrue v (initial_clauses z task) → (f : ℕ) → f < task.facts → state 0 f ≡ initial_state task f
  begins s f lt =
      initial_by f (initial_state task f) (satisfied_map_each v (λ f. (if initial_state task f then Is (fact_at z 0 f) else Not (fact_at z 0 f)) ∷ []) (range task.facts) s f (among_range task.facts 0 f (omega arith) (omega arith)))

  hopeful_by : (b : Bool) → AllTrue v (if b then [] ∷ [] else []) → b ≡ false
  hopeful_by true s = let e : false ≡ true = s.0 in cc
  hopeful_by false s = refl

  or_false : (b : Bool) → (b || false) ≡ true → b ≡ true
  or_false true e = refl
  or_false false e = e

  pub reaches : AllTrue v (goal_clauses z task) → (task.hopeless ≡ false) × all_hold (state z.horizon) task.goal ≡ true
  reaches s =
      let p = parted v (if task.hopeless then [] ∷ [] else []) _ s in (
        hopeful_by task.hopeless p.0,
        all_from (holds (state z.horizon)) task.goal (λ l a. sym (over v (fact_at z z.horizon) l) ∙ or_false _ (satisfied_map_each v (λ l. literal_over (fact_at z z.horizon) l ∷ []) task.goal p.1 l a)),
      )

  single : (t l : ℕ) → AllTrue v (pair_clauses z pairs t) → is_single pairs l ≡ true → holds (state t) l ≡ true
  single t l s h =
      let p = passing (λ p. (p.0 == l) && (p.1 == l)) pairs h in
      let x = and_split (p.one.0 == l) _ p.passes in
      let same : (p.one.0 == p.one.1) ≡ true = same_test p.one.0 p.one.1 (test_same _ _ x.0 ∙ sym (test_same _ _ x.1)) in
      let c : AllTrue v ((literal_over (fact_at z t) p.one.0 ∷ []) ∷ []) = rw same at (satisfied_each v (pair_clause (fact_at z t) pairs) pairs s p.one p.among) in
      ap (holds (state t)) (sym (test_same _ _ x.0)) ∙ sym (over v (fact_at z t) p.one.0) ∙ or_false _ c.0

  pair_by : (t l m : ℕ) (b c : Bool) → (c ≡ true → (holds (state t) l || holds (state t) m) ≡ true) → AllTrue v (if b then (literal_over (fact_at z t) l ∷ []) ∷ [] else if c then [] else (literal_over (fact_at z t) l ∷ literal_over (fact_at z t) m ∷ []) ∷ []) → (holds (state t) l || holds (state t) m) ≡ true
  pair_by t l m true c h s = or_left _ _ (sym (over v (fact_at z t) l) ∙ or_false _ s.0)
  pair_by t l m false true h s = h refl
  pair_by t l m false false h s =
      elim (or_split (truth v (literal_over (fact_at z t) l)) _ s.0) [
        | inl x ↦ or_left _ _ (sym (over v (fact_at z t) l) ∙ x)
        | inr x ↦ or_right _ _ (sym (over v (fact_at z t) m) ∙ or_false _ x)
      ]

  pub knows : (t : ℕ) → AllTrue v (pair_clauses z pairs t) → Knows pairs (state t)
  knows t s =
      each_from _ pairs (λ p a. pair_by t p.0 p.1 (p.0 == p.1) (is_single pairs p.0 || is_single pairs p.1)
      (λ c. elim (or_split _ _ c) [ inl x ↦ or_left _ _ (single t p.0 s x) | inr x ↦ or_right _ _ (single t p.1 s x) ])
      (satisfied_each v (pair_clause (fact_at z t) pairs) pairs s p a))

-- the true actions of a satisfying assignment are a step plan
pub plan_of : (task : Task) (pairs : List (ℕ × ℕ)) (places : List (List ℕ × ℕ)) (order : List ℕ) (n : ℕ) (v : ℕ → Bool) → IsOrderedBy task pairs places order (layout_of task places n) v → AllTrue v (clauses_of_horizon task pairs places n) → LoosePlan task order (true_actions task pairs places order (layout_of task places n) v) n
plan_of task pairs places order n v ordered s =
    let z = layout_of task places n in
    let p1 = parted v (initial_clauses z task) (goal_clauses z task ++ (flat_map (step_clauses z task places) (range n) ++ flat_map (pair_clauses z pairs) (range (n + 1)))) s in
    let p2 = parted v (goal_clauses z task) (flat_map (step_clauses z task places) (range n) ++ flat_map (pair_clauses z pairs) (range (n + 1))) p1.1 in
    let p3 = parted v (flat_map (step_clauses z task places) (range n)) (flat_map (pair_clauses z pairs) (range (n + 1))) p2.1 in
    let r = reaches task pairs places order z v p2.0 in
    record {
      states = state task pairs places order z v;
      begins = begins task pairs places order z v p1.0;
      leads = λ t lt.
          step_of task pairs places order z v ordered t
          (knows task pairs places order z v t (satisfied_each v (pair_clauses z pairs) (range (n + 1)) p3.1 t (among_range (n + 1) 0 t (omega arith) (omega arith))))
          (satisfied_each v (step_clauses z task places) (range n) p3.0 t (among_range n 0 t (omega arith) (omega arith)));
      reaches = record { hopeful = r.0; reached = r.1 };
    }

-- the chains of components order exists-steps: within a component by its chains, across components by the order's law
pub ordered_by_components : (task : Task) (pairs : List (ℕ × ℕ)) (components : List (List ℕ)) (z : Layout) (v : ℕ → Bool) → HasFacts task → KeepsApart task pairs components → IsOrderedBy task pairs (chain_places task components) (order_of components) z v
ordered_by_components task pairs components z v has o t k runs clash s =
    pairwise_flat _ components (λ ks a. within v (action_at z t) (chain_at z t) task (chain_places task components) ks has s (component_place task components ks a))
    (across task pairs (λ a. v (action_at z t a)) (λ f. v (fact_at z t f)) components k runs clash o)
