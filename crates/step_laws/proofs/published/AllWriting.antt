use Rattle.std.proofs.Common.{◌≡◌, ◌==◌, ℕ, ◌<◌, ◌≤◌, List, length, Bool, true, false, subst}
use Rattle.gt_core.specs.Task.{initial_state}
use Rattle.gt_core.specs.Execution.{CanRun, run, IsGoal}
use Rattle.gt_core.specs.Interference.{disables}
use Rattle.gt_core.specs.AllStep.{NoneDisables, IsAllStepPlan}
use Rattle.gt_core.specs.Published.{Pairwise}
use Rattle.gt_core.proofs.published.Pairwise.{pairwise_both, every_pair}
use Rattle.gt_core.proofs.published.EachOrder.{itself}
use Rattle.clause_base.specs.Formula.{Satisfies, IsUnsatisfiable}
use Rattle.formula_defs.specs.Coded.{formula_of}
use Rattle.step_laws.specs.Form.{OrderedTask, IsOrderedTask, member_at}
use Rattle.step_laws.specs.Stepping.{IsStepping}
use Rattle.step_laws.proofs.FormLaw.{satisfied_at}
use Rattle.step_laws.proofs.published.SequenceLaw.{one_by_one, one_member, sequence_is_plan}
use Rattle.step_chains.specs.BothWays as places
use Rattle.step_laws.specs.own.AllPlan.{all_places, IsAllPlanOf}
use Rattle.step_laws.proofs.AllWays.{each_place, all_in_range, distinct_there, distinct_back}
use Rattle.step_laws.proofs.AllReading.{all_plans}

-- A plan of all-steps satisfies the formula, and a sequence is such a plan.

module _ (form : OrderedTask) (is : IsOrderedTask form) where
  -- members of which none disables another are apart, in whatever order
  apart_in : (members : ℕ → Bool) → NoneDisables form.task members → (ks : List ℕ) → Pairwise (λ a b. (a == b) ≡ false) ks → Pairwise (λ a b. ((a == b) ≡ false) × (members a ≡ true → members b ≡ true → disables form.task a b ≡ false)) ks
  apart_in members none ks distinct = pairwise_both _ _ ks distinct (every_pair (λ a b. members a ≡ true → members b ≡ true → disables form.task a b ≡ false) ks none)

  pub all_satisfied : (n : ℕ) (steps : List (List ℕ)) → IsAllPlanOf form n steps → (v : ℕ → Bool) × Satisfies v (formula_of form.task form.known.clauses (all_places form) n).clauses
  all_satisfied n steps plan =
      satisfied_at form is (all_places form) (all_in_range form is) n steps (record { long = plan.long; plan = plan.plan.plan })
      (λ t lt ks m i.
      let P : List ℕ → Type 0 = λ ks. Pairwise (λ a b. ((a == b) ≡ false) × (member_at steps t a ≡ true → member_at steps t b ≡ true → disables form.task a b ≡ false)) ks in
      each_place form P (apart_in (member_at steps t) (plan.plan.none t lt) _ (distinct_there form is)) (apart_in (member_at steps t) (plan.plan.none t lt) _ (distinct_back form is)) (ks, m) i)

  pub all_refutes : (n : ℕ) → IsUnsatisfiable (formula_of form.task form.known.clauses (all_places form) n).clauses → (steps : List (List ℕ)) → IsAllPlanOf form n steps → ⊥
  all_refutes n none steps plan = let s = all_satisfied n steps plan in none s.0 s.1

-- one action a step
pub sequence_is_all_plan : (form : OrderedTask) (n : ℕ) (ks : List ℕ) → length ks ≤ n → CanRun form.task (initial_state form.task) ks → IsGoal form.task (run form.task (initial_state form.task) ks) → (steps : List (List ℕ)) × IsAllPlanOf form n steps
sequence_is_all_plan form n ks le can goal =
    let p = sequence_is_plan form n ks le can goal in (
      one_by_one ks n,
      record {
        long = p.long;
        plan = record { plan = p.plan; none = λ t lt a b x y. subst (λ (c : ℕ). disables form.task a c ≡ false) (one_member ks n t a b x y) (itself form.task a) };
      },
    )

pub all_steps : IsStepping places.all_places IsAllStepPlan
all_steps = record { steps = λ task order sets n plan. plan.plan; in_range = all_in_range; plans = all_plans; refutes = all_refutes }
