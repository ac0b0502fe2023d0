use Rattle.std.proofs.Common.{arith, ◌≡◌, ◌==◌, ℕ, zero, suc, ◌+◌, ◌/◌, ◌<◌, ◌≤◌, List, [], ◌∷◌, ◌++◌, length, Bool, true, false, not, ◌||◌, ◌&&◌, sym, ap, ◌∙◌, subst, inl, inr}
use Rattle.std.specs.List.{filter, flat_map}
use Rattle.gt_core.specs.Literal.{holds, is_in}
use Rattle.gt_core.specs.Task.{Task, action_numbers, initial_state}
use Rattle.gt_core.specs.Execution.{gains, loses, CanRun, run}
use Rattle.gt_core.specs.Interference.{disables, Knows}
use Rattle.gt_core.specs.Step.{gained, lost, IsStep, IsStepPlan}
use Rattle.gt_core.specs.Published.{Pairwise, order_of, KeepsApart}
use Rattle.formula_defs.specs.Layout.{action_at}
use Rattle.gt_core.proofs.published.Basics.{Among, each_at, each_from, any_same, same_if}
use Rattle.gt_core.proofs.published.Literals.{holds_same, in_among, among_in, among_range, below_range}
use Rattle.gt_core.proofs.published.Pairwise.{among_left, flat_among, filtered, into_filter, pairwise_both}
use Rattle.formula_defs.specs.Variables.{layout_of}
use Rattle.gt_core.proofs.published.PublishedLaw.{published_keeps_apart, published_all, component_apart}
use Rattle.gt_core.proofs.published.RunLaw.{runs_in_order}
use Rattle.gt_core.proofs.published.SequenceLaw.{Agree, run_agrees, run_joined, can_run_joined}
use Rattle.clause_base.specs.Formula.{Satisfies, IsUnsatisfiable}
use Rattle.formula_defs.specs.Coded.{formula_of}
use Rattle.step_laws.specs.Form.{OrderedTask, IsOrderedTask, places_of, set_at, member_at, IsPlanOf, steps_at, steps_for}
use Rattle.step_laws.proofs.published.SetAt.{set_of, sets_from}
use Rattle.step_laws.proofs.PlanLaw.{LooseStep, IsOrderedBy, plan_of, ordered_by_components}
use Rattle.step_laws.proofs.FormulaLaw.{AreApart, plan_satisfies, v as of_plan}
use Rattle.formula_defs.proofs.published.CodedLaw.{encoded, decoded}
use Rattle.step_laws.proofs.published.Ranges.{in_range_of, member_below, component_of}
use Rattle.formula_defs.proofs.published.InRange.{IsInRange}

-- The two laws of a form: what a satisfying assignment stands for is a step plan, and each step plan is such.

pub pairwise_first : {A : Type 0} (R : A → A → Type 0) (xs ys : List A) → Pairwise R (xs ++ ys) → Pairwise R xs
pairwise_first R [] ys p = tt
pairwise_first R (x ∷ xs) ys p = (each_from (R x) xs (λ y a. each_at (R x) (xs ++ ys) y p.0 (among_left xs ys y a)), pairwise_first R xs ys p.1)

pairwise_rest : {A : Type 0} (R : A → A → Type 0) (xs ys : List A) → Pairwise R (xs ++ ys) → Pairwise R ys
pairwise_rest R [] ys p = p
pairwise_rest R (x ∷ xs) ys p = pairwise_rest R xs ys p.1

pub pairwise_in : {A : Type 0} (R : A → A → Type 0) (xss : List (List A)) (xs : List A) → Among xs xss → Pairwise R (flat_map (λ xs. xs) xss) → Pairwise R xs
pairwise_in R [] xs a p = absurd a
pairwise_in R (ys ∷ xss) xs (inl e) p = subst (λ zs. Pairwise R zs) (sym e) (pairwise_first R ys _ p)
pairwise_in R (ys ∷ xss) xs (inr a) p = pairwise_in R xss xs a (pairwise_rest R ys _ p)

module _ (form : OrderedTask) (is : IsOrderedTask form) where
  abbrev task : Task
  task = form.task

  abbrev order : List ℕ
  order = order_of form.components

  in_range : IsInRange form.task form.known.clauses (places_of form)
  in_range = in_range_of form is

  distinct : (ks : List ℕ) → Among ks form.components → Pairwise (λ a b. (a == b) ≡ false) ks
  distinct = component_apart form.task form.known.clauses form.components is.published

  ordered : KeepsApart form.task form.known.clauses form.components
  ordered = published_keeps_apart form.task form.known.clauses form.components is.published

  placed : (a : ℕ) → a < length form.task.actions → Among a (order_of form.components)
  placed a lt =
      published_all form.task form.known.clauses form.components is.published a
      (among_in (action_numbers form.task) a (among_range (length form.task.actions) 0 a (omega arith) (omega arith)))

  -- what stands in the order is an action
  pub listed_below : (a : ℕ) → Among a (order_of form.components) → a < length form.task.actions
  listed_below a i = let r = flat_among (λ ks. ks) form.components a i in member_below form is r.0 r.1 a r.2

  -- a step's members matter only where they stand in the order
  step_members : (s t : ℕ → Bool) (p q : ℕ → Bool) → ((a : ℕ) → q a ≡ true → p a ≡ true × a < length form.task.actions) → ((a : ℕ) → Among a order → p a ≡ q a) → LooseStep task order s p t → IsStep task order s q t
  step_members s t p q sub same step = record {
    runs = λ a x. record { action = (sub a x).1; able = step.runs a (sub a x).0 };
    no_clash = λ a b f x y. step.no_clash a b f (sub a x).0 (sub b y).0;
    ordered = weaker order step.ordered;
    after = λ f lt.
        let g = any_same (λ a. p a && gains task s a f) (λ a. q a && gains task s a f) (action_numbers task) (λ a i. ap (λ (b : Bool). b && gains task s a f) (same a (placed a (below_range (length form.task.actions) a i)))) in
        let l = any_same (λ a. p a && loses task s a f) (λ a. q a && loses task s a f) (action_numbers task) (λ a i. ap (λ (b : Bool). b && loses task s a f) (same a (placed a (below_range (length form.task.actions) a i)))) in
        step.after f lt ∙ ap (λ (b : Bool). b || (s f && not (lost task s p f))) g ∙ ap (λ (b : Bool). gained task s q f || (s f && not b)) l;
  }
    where
      weaker : (ks : List ℕ) → Pairwise (λ a b. p a ≡ true → p b ≡ true → disables task a b ≡ false) ks → Pairwise (λ a b. q a ≡ true → q b ≡ true → disables task a b ≡ false) ks
      weaker [] h = tt
      weaker (k ∷ ks) h = (each_from _ ks (λ b i x y. each_at _ ks b h.0 i (sub k x).0 (sub b y).0), weaker ks h.1)

  -- the first law of an encoding, where the chains go to places that order the true actions: what a satisfying assignment
  -- stands for is a plan
  pub plans_at : (places : List (List ℕ × ℕ)) (n : ℕ) (v : ℕ → Bool) → IsOrderedBy form.task form.known.clauses places order (layout_of form.task places n) v → Satisfies v (formula_of form.task form.known.clauses places n).clauses → IsPlanOf form n (steps_at form places n v)
  plans_at places n v ordered s =
      let z = layout_of form.task places n in
      let p = plan_of form.task form.known.clauses places order n v ordered (decoded v _ s) in
      record {
        long = sets_from (λ t. filter (λ a. v (action_at z t a)) order) 0 n;
        plan = record {
          states = p.states;
          begins = p.begins;
          reaches = p.reaches;
          leads = λ t lt.
              let set : set_at (steps_at form places n v) t ≡ filter (λ a. v (action_at z t a)) order = set_of (λ t. filter (λ a. v (action_at z t a)) order) n t lt in
              subst (λ (x : List ℕ). IsStep task order (p.states t) (λ a. is_in x a) (p.states (t + 1))) (sym set)
              (step_members (p.states t) (p.states (t + 1)) (λ a. v (action_at z t a)) (is_in (filter (λ a. v (action_at z t a)) order))
              (λ a x. let r = filtered (λ a. v (action_at z t a)) order a (in_among _ a x) in (r.1, listed_below a r.0))
              (λ a i. same_if _ _ (λ x. among_in _ a (into_filter (λ a. v (action_at z t a)) order a i x)) (λ x. (filtered (λ a. v (action_at z t a)) order a (in_among _ a x)).1))
              (p.leads t lt));
        };
      }

  -- the same for exists-steps
  pub plans : (n : ℕ) (v : ℕ → Bool) → Satisfies v (formula_of form.task form.known.clauses (places_of form) n).clauses → IsPlanOf form n (steps_for form n v)
  plans n v s = plans_at (places_of form) n v (ordered_by_components form.task form.known.clauses form.components (layout_of form.task (places_of form) n) v in_range.effect_facts ordered) s

  -- each state of a step plan is reached by actions, up to the facts
  pub record Reached (s : ℕ → Bool) : Type 0 where
    pub by : List ℕ
    pub can : CanRun task (initial_state task) by
    pub to : Agree task (run task (initial_state task) by) s

  reached : (steps : ℕ → ℕ → Bool) (n : ℕ) (p : IsStepPlan task order steps n) (t : ℕ) → t ≤ n → Reached (p.states t)
  reached steps n p zero le = record { by = []; can = tt; to = λ f lt. sym (p.begins f lt) }
  reached steps n p (suc t) le =
      let r = reached steps n p t (omega arith) in
      let step = p.leads t (omega arith) in
      let one = runs_in_order task form.known.clauses form.components (p.states t) (steps t) (p.states (t + 1)) is.published step in
      let block = filter (steps t) order in
      let more = run_agrees task is.lawful block (p.states t) (run task (initial_state task) r.by) (λ f lt. sym (r.to f lt)) one.runs in
      let all = ap (λ (v : ℕ → Bool). v) (run_joined task (initial_state task) r.by block) in
      let e : t + 1 ≡ suc t = omega arith in
      record { by = r.by ++ block; can = can_run_joined task (initial_state task) r.by block r.can more.0; to = λ f lt. ap (λ (v : ℕ → Bool). v f) all ∙ sym (more.1 f lt) ∙ one.leads f lt ∙ ap (λ (k : ℕ). p.states k f) e }

  knows_agree : (s u : ℕ → Bool) → Agree task s u → Knows form.known.clauses s → Knows form.known.clauses u
  knows_agree s u h k = each_from _ form.known.clauses (λ p i.
      let w = in_range.known p i in
      let x = holds_same s u p.0 (h (p.0 / 2) w.0) in
      let y = holds_same s u p.1 (h (p.1 / 2) w.1) in
      let c : (holds s p.0 || holds s p.1) ≡ true = each_at _ form.known.clauses p k i in
      rw (x, y) at c)

  -- the second law, where the members of each place are apart in each step: where there is a plan, an assignment satisfies
  -- the formula
  pub satisfied_at : (places : List (List ℕ × ℕ)) → IsInRange form.task form.known.clauses places → (n : ℕ) (steps : List (List ℕ)) → IsPlanOf form n steps → ((t : ℕ) → t < n → AreApart form.task places (member_at steps t))
      → (v : ℕ → Bool) × Satisfies v (formula_of form.task form.known.clauses places n).clauses
  satisfied_at places within n steps plan parts =
      let p = plan.plan in (
        of_plan form.task form.known.clauses places order n within (member_at steps) p.states,
        encoded _ _ (plan_satisfies form.task form.known.clauses places order n within (member_at steps) p.states p.begins p.leads parts p.reaches
            (λ t le. let r = reached (member_at steps) n p t le in knows_agree _ (p.states t) r.to (is.hold r.by r.can))),
      )

  -- in a step the members of a component are apart
  pub component_parts : (members : ℕ → Bool) → Pairwise (λ a b. members a ≡ true → members b ≡ true → disables task a b ≡ false) order → AreApart task (places_of form) members
  component_parts members o ks m i =
      let among = component_of form.task form.components (ks, m) i in
      pairwise_both _ _ ks (distinct ks among) (pairwise_in _ form.components ks among o)

  -- the same for exists-steps
  pub satisfied : (n : ℕ) (steps : List (List ℕ)) → IsPlanOf form n steps
      → (v : ℕ → Bool) × Satisfies v (formula_of form.task form.known.clauses (places_of form) n).clauses
  satisfied n steps plan = satisfied_at (places_of form) in_range n steps plan (λ t lt. component_parts (member_at steps t) (plan.plan.leads t lt).ordered)

  pub refutes : (n : ℕ) → IsUnsatisfiable (formula_of form.task form.known.clauses (places_of form) n).clauses → (steps : List (List ℕ)) → IsPlanOf form n steps → ⊥
  refutes n none steps plan = let s = satisfied n steps plan in none s.0 s.1
