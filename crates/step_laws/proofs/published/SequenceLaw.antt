use Rattle.std.proofs.Common.{arith, ◌≡◌, ◌==◌, ℕ, zero, suc, ◌+◌, ◌<◌, ◌≤◌, List, [], ◌∷◌, length, Bool, true, false, refl, sym, ap, ◌∙◌, subst, inl, inr}
use Rattle.gt_core.specs.Literal.{is_in}
use Rattle.gt_core.specs.Task.{Task, initial_state}
use Rattle.gt_core.specs.Execution.{next_of_one, CanRun, run, IsGoal}
use Rattle.gt_core.specs.Step.{IsStep, IsStepPlan}
use Rattle.gt_core.specs.Published.{order_of}
use Rattle.gt_core.proofs.published.Basics.{or_split, test_same}
use Rattle.gt_core.proofs.published.StepLaw.{step_of_one, step_of_none}
use Rattle.step_laws.proofs.published.SetAt.{set_next}
use Rattle.step_laws.specs.Form.{OrderedTask, set_at, member_at, IsPlanOf}

-- A plan of at most n actions in sequence is a step plan of n steps.

-- one action a step, and then empty steps
abbrev pub one_by_one : List ℕ → ℕ → List (List ℕ)
one_by_one ks zero = []
one_by_one [] (suc n) = [] ∷ one_by_one [] n
one_by_one (k ∷ ks) (suc n) = (k ∷ []) ∷ one_by_one ks n

abbrev state_after : Task → (ℕ → Bool) → List ℕ → ℕ → ℕ → Bool
state_after task s ks zero = s
state_after task s [] (suc t) = s
state_after task s (k ∷ ks) (suc t) = state_after task (next_of_one task s k) ks t

length-one_by_one : (ks : List ℕ) (n : ℕ) → length (one_by_one ks n) ≡ n
length-one_by_one ks zero = refl
length-one_by_one [] (suc n) = let h = length-one_by_one [] n in omega arith
length-one_by_one (k ∷ ks) (suc n) = let h = length-one_by_one ks n in omega arith

stays : (task : Task) (s : ℕ → Bool) (n : ℕ) → state_after task s [] n ≡ s
stays task s zero = refl
stays task s (suc n) = refl

ends : (task : Task) (s : ℕ → Bool) (ks : List ℕ) (n : ℕ) → length ks ≤ n → state_after task s ks n ≡ run task s ks
ends task s [] n l = stays task s n
ends task s (k ∷ ks) zero l = absurd (omega arith)
ends task s (k ∷ ks) (suc n) l = ends task (next_of_one task s k) ks n (omega arith)

later_set : (x : List ℕ) (xs : List (List ℕ)) (t : ℕ) → set_at xs t ≡ set_at (x ∷ xs) (suc t)
later_set x xs t = let e : t + 1 ≡ suc t = omega arith in sym (set_next x xs t) ∙ ap (set_at (x ∷ xs)) e

leads : (task : Task) (order : List ℕ) (ks : List ℕ) (n : ℕ) (s : ℕ → Bool) → CanRun task s ks → (t : ℕ) → t < n → IsStep task order (state_after task s ks t) (member_at (one_by_one ks n) t) (state_after task s ks (suc t))
leads task order ks zero s c t l = absurd (omega arith)
leads task order [] (suc n) s c zero l = step_of_none task order s
leads task order (k ∷ ks) (suc n) s c zero l = step_of_one task order s k c.0
leads task order [] (suc n) s c (suc t) l =
    let h = leads task order [] n s c t (omega arith) in
    subst (λ (x : List ℕ). IsStep task order s (is_in x) s) (later_set [] (one_by_one [] n) t) (rw (stays task s t) at h)
leads task order (k ∷ ks) (suc n) s c (suc t) l =
    let h = leads task order ks n (next_of_one task s k) c.1 t (omega arith) in
    subst (λ (x : List ℕ). IsStep task order (state_after task (next_of_one task s k) ks t) (is_in x) (state_after task (next_of_one task s k) ks (suc t))) (later_set (k ∷ []) (one_by_one ks n) t) h

only_one : (k a : ℕ) → is_in (k ∷ []) a ≡ true → k ≡ a
only_one k a x = elim (or_split (k == a) false x) [ inl e ↦ test_same k a e | inr e ↦ absurd (let f : false ≡ true = e in cc) ]

-- two members of a step are the same
pub one_member : (ks : List ℕ) (n t a b : ℕ) → member_at (one_by_one ks n) t a ≡ true → member_at (one_by_one ks n) t b ≡ true → a ≡ b
one_member ks zero t a b x y = absurd (let f : false ≡ true = x in cc)
one_member [] (suc n) zero a b x y = absurd (let f : false ≡ true = x in cc)
one_member (k ∷ ks) (suc n) zero a b x y = sym (only_one k a x) ∙ only_one k b y
one_member [] (suc n) (suc t) a b x y =
    let e = later_set [] (one_by_one [] n) t in one_member [] n t a b (ap (λ (set : List ℕ). is_in set a) e ∙ x) (ap (λ (set : List ℕ). is_in set b) e ∙ y)
one_member (k ∷ ks) (suc n) (suc t) a b x y =
    let e = later_set (k ∷ []) (one_by_one ks n) t in one_member ks n t a b (ap (λ (set : List ℕ). is_in set a) e ∙ x) (ap (λ (set : List ℕ). is_in set b) e ∙ y)

-- actions that run to the goal, at most n of them, are a step plan of n steps, whatever the order
pub run_is_step_plan : (task : Task) (order : List ℕ) (n : ℕ) (ks : List ℕ) → length ks ≤ n → CanRun task (initial_state task) ks → IsGoal task (run task (initial_state task) ks) → IsStepPlan task order (member_at (one_by_one ks n)) n
run_is_step_plan task order n ks le can goal = record {
  states = state_after task (initial_state task) ks;
  begins = λ f lt. refl;
  leads = λ t lt.
      let e : suc t ≡ t + 1 = omega arith in
      subst (λ (m : ℕ). IsStep task order (state_after task (initial_state task) ks t) (member_at (one_by_one ks n) t) (state_after task (initial_state task) ks m)) e (leads task order ks n (initial_state task) can t lt);
  reaches = subst (λ (s : ℕ → Bool). IsGoal task s) (sym (ends task (initial_state task) ks n le)) goal;
}

-- a sequential plan of at most n actions is a step plan of n steps
pub sequence_is_plan : (form : OrderedTask) (n : ℕ) (ks : List ℕ) → length ks ≤ n → CanRun form.task (initial_state form.task) ks → IsGoal form.task (run form.task (initial_state form.task) ks) → IsPlanOf form n (one_by_one ks n)
sequence_is_plan form n ks le can goal = record { long = length-one_by_one ks n; plan = run_is_step_plan form.task (order_of form.components) n ks le can goal }
