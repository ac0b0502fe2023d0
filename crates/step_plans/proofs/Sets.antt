-- The sets of a step plan as lists of their members.
use std.Path.{fun_ext}
use Rattle.std.proofs.Common.{arith, ◌≡◌, ◌<◌, ℕ, ◌+◌, List, map, length, Bool, sym, ap, subst, ◌∙◌}
use Rattle.std.specs.List.{filter}
use Rattle.gt_core.specs.Literal.{is_in, range}
use Rattle.gt_core.specs.Task.{Task, action_numbers}
use Rattle.gt_core.specs.Step.{IsStep, IsStepPlan}
use Rattle.gt_core.proofs.published.Basics.{same_if}
use Rattle.gt_core.proofs.published.Literals.{among_in, in_among, among_range}
use Rattle.gt_core.proofs.published.Pairwise.{filtered, into_filter}
use Rattle.step_laws.specs.Form.{member_at}
use Rattle.step_plans.specs.Plans.{NoneBarred, IsStepPlanOf}
use Rattle.step_laws.proofs.published.SetAt.{set_of, sets_from}

-- the members of the first n sets, by number
abbrev pub lists_of : Task → (ℕ → ℕ → Bool) → ℕ → List (List ℕ)
lists_of task sets n = map (λ t. filter (sets t) (action_numbers task)) (range n)

module _ (bars : ℕ → ℕ → Bool) (task : Task) (order : List ℕ) (sets : ℕ → ℕ → Bool) (n : ℕ) (of : IsStepPlanOf bars task order sets n) where
  abbrev plan : IsStepPlan task order sets n
  plan = of.plan

  same_member : (t a : ℕ) → t < n → is_in (filter (sets t) (action_numbers task)) a ≡ sets t a
  same_member t a lt = same_if _ _
      (λ i. (filtered (sets t) (action_numbers task) a (in_among _ a i)).1)
      (λ m. let act = ((plan.leads t lt).runs a m).action in among_in _ a (into_filter (sets t) (action_numbers task) a (among_range (length task.actions) 0 a (omega arith) (omega (arith, act))) m))

  same_set : (t : ℕ) → t < n → member_at (lists_of task sets n) t ≡ sets t
  same_set t lt = ap (λ (xs : List ℕ). is_in xs) (set_of (λ k. filter (sets k) (action_numbers task)) n t lt) ∙ fun_ext (λ a. same_member t a lt)

  pub are_lists : (length (lists_of task sets n) ≡ n) × IsStepPlanOf bars task order (member_at (lists_of task sets n)) n
  are_lists = (
    sets_from (λ t. filter (sets t) (action_numbers task)) 0 n,
    record {
      plan = record {
        states = plan.states;
        begins = plan.begins;
        leads = λ t lt. subst (λ (members : ℕ → Bool). IsStep task order (plan.states t) members (plan.states (t + 1))) (sym (same_set t lt)) (plan.leads t lt);
        reaches = plan.reaches;
      };
      each = λ t lt. subst (NoneBarred bars) (sym (same_set t lt)) (of.each t lt);
    },
  )
