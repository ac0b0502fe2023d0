-- A step plan goes on with empty sets; so where there is none of n steps, each has more. And listed sets have actions once.
use Rattle.std.proofs.Common.{arith, ltb, ◌∙◌, ◌≡◌, ◌==◌, ◌≤◌, ◌<◌, ℕ, ◌+◌, List, [], ◌∷◌, length, Bool, true, false, if◌then◌else◌, refl, sym, ap, subst}
use Rattle.std.proofs.lemmas.Bool.{ltb-true, lt-ltb}
use Rattle.std.specs.List.{filter, AllByRecursion}
use Rattle.gt_core.specs.Literal.{is_in}
use Rattle.gt_core.specs.Task.{Task}
use Rattle.gt_core.specs.Published.{IsPublished, order_of}
use Rattle.gt_core.specs.Step.{IsStep}
use Rattle.gt_core.specs.Laws.{EmptySetIsStep, PublishedHasEachOnce}
use Rattle.gt_core.proofs.published.Basics.{apart, each_from}
use Rattle.gt_core.proofs.published.Literals.{among_in}
use Rattle.gt_core.proofs.published.Pairwise.{filtered, pairwise_filter}
use Rattle.step_plans.specs.Plans.{NoneBarred, IsStepPlanOf, AreListed, HasActionsOnce}

-- what there is at a time below k, and then what is last
abbrev pub until : {A : Type 0} → ℕ → (ℕ → A) → A → ℕ → A
until k each last t = if ltb t k then each t else last

within : {A : Type 0} (k : ℕ) (each : ℕ → A) (last : A) (t : ℕ) → ltb t k ≡ true → until k each last t ≡ each t
within k each last t e = rw e refl

past : {A : Type 0} (k : ℕ) (each : ℕ → A) (last : A) (t : ℕ) → ltb t k ≡ false → until k each last t ≡ last
past k each last t e = rw e refl

past_is : (k t : ℕ) → ltb t k ≡ false → k ≤ t
past_is k t e = let no : t < k → ⊥ = λ lt. apart (ltb t k) (lt-ltb t k lt) e in omega (arith, no)

is_past : (k t : ℕ) → k ≤ t → ltb t k ≡ false
is_past k t le = by (ltb t k) refl
  where
    by : (b : Bool) → ltb t k ≡ b → b ≡ false
    by true e = absurd (let lt = ltb-true t k e in omega arith)
    by false e = refl

module _ (bars : ℕ → ℕ → Bool) (task : Task) (order : List ℕ) (empty : EmptySetIsStep) where
  -- the sets of k steps, and then empty ones
  abbrev pub grown : (ℕ → ℕ → Bool) → ℕ → ℕ → ℕ → Bool
  grown sets k = until k sets (is_in [])

  module _ (sets : ℕ → ℕ → Bool) (k n : ℕ) (le : k ≤ n) (of : IsStepPlanOf bars task order sets k) where
    abbrev states : ℕ → ℕ → Bool
    states = until k of.plan.states (of.plan.states k)

    at_last : (t : ℕ) → k ≤ t → states t ≡ of.plan.states k
    at_last t past_k = past k of.plan.states (of.plan.states k) t (is_past k t past_k)

    at_next : (t : ℕ) → t < k → states (t + 1) ≡ of.plan.states (t + 1)
    at_next t lt = by (ltb (t + 1) k) refl
      where
        by : (b : Bool) → ltb (t + 1) k ≡ b → states (t + 1) ≡ of.plan.states (t + 1)
        by true e = within k of.plan.states (of.plan.states k) (t + 1) e
        by false e =
            let is : t + 1 ≡ k = let from = past_is k (t + 1) e in omega arith in
            let last = past k of.plan.states (of.plan.states k) (t + 1) e in
            subst (λ (u : ℕ). states (t + 1) ≡ of.plan.states u) (sym is) last

    leads : (t : ℕ) → (b : Bool) → ltb t k ≡ b → IsStep task order (states t) (grown sets k t) (states (t + 1))
    leads t true e =
        let lt = ltb-true t k e in
        rw (within k of.plan.states (of.plan.states k) t e, within k sets (is_in []) t e, at_next t lt) (of.plan.leads t lt)
    leads t false e =
        let from = past_is k t e in
        rw (at_last t from, past k sets (is_in []) t e, at_last (t + 1) (omega arith)) (empty task order (of.plan.states k))

    each : (t : ℕ) → (b : Bool) → ltb t k ≡ b → NoneBarred bars (grown sets k t)
    each t true e = subst (NoneBarred bars) (sym (within k sets (is_in []) t e)) (of.each t (ltb-true t k e))
    each t false e = subst (NoneBarred bars) (sym (past k sets (is_in []) t e)) (λ a b x y. absurd (let never : false ≡ true = x in cc))

    begins : (b : Bool) → ltb 0 k ≡ b → states 0 ≡ of.plan.states 0
    begins true e = within k of.plan.states (of.plan.states k) 0 e
    begins false e =
        let is : k ≡ 0 = let from = past_is k 0 e in omega arith in
        subst (λ (u : ℕ). states 0 ≡ of.plan.states u) is (past k of.plan.states (of.plan.states k) 0 e)

    pub grows : IsStepPlanOf bars task order (grown sets k) n
    grows = record {
      plan = record {
        states = states;
        begins = λ f lt. ap (λ (s : ℕ → Bool). s f) (begins (ltb 0 k) refl) ∙ of.plan.begins f lt;
        leads = λ t lt. leads t (ltb t k) refl;
        reaches = rw (at_last n le) of.plan.reaches;
      };
      each = λ t lt. each t (ltb t k) refl;
    }

  -- where there is no step plan of n steps, each has more
  pub longer : (n : ℕ) → ((sets : ℕ → ℕ → Bool) → IsStepPlanOf bars task order sets n → ⊥) → (sets : ℕ → ℕ → Bool) (k : ℕ) → IsStepPlanOf bars task order sets k → n < k
  longer n refuted sets k of = let no : k ≤ n → ⊥ = λ le. refuted (grown sets k) (grows sets k n le of) in omega (arith, no)

-- ---- listed sets

module _ (task : Task) (clauses : List (ℕ × ℕ)) (components : List (List ℕ)) (published : IsPublished task clauses components) (each_once : PublishedHasEachOnce) where
  listed_once : (p : ℕ → Bool) → HasActionsOnce task (filter p (order_of components))
  listed_once p =
      let has = each_once task clauses components published in
      record {
        actions = each_from (λ a. a < length task.actions) (filter p (order_of components)) (λ a i. has.only a (among_in (order_of components) a (filtered p (order_of components) a i).0));
        once = pairwise_filter p (λ a b. (a == b) ≡ false) (λ a b. (a == b) ≡ false) (order_of components) (λ a b s t q. q) has.once;
      }

  pub all_once : (steps : List (List ℕ)) → AreListed (order_of components) steps → AllByRecursion (HasActionsOnce task) steps
  all_once [] listed = tt
  all_once (set ∷ steps) listed = (subst (HasActionsOnce task) (sym listed.0) (listed_once (is_in set)), all_once steps listed.1)
