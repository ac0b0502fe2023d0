use Rattle.std.proofs.Common.{arith, ◌≡◌, ◌==◌, ℕ, ◌+◌, ◌-◌, ◌<◌, List, [], ◌∷◌, Bool, true, false, length, if◌then◌else◌, ap, ◌∙◌}
use Rattle.std.specs.List.{AllByRecursion}
use Rattle.gt_core.specs.Literal.{is_in}
use Rattle.gt_core.proofs.published.Basics.{not_true, test_same, each_from}
use Rattle.gt_core.proofs.published.Literals.{among_in}
use Rattle.step_laws.specs.Form.{OrderedTask, IsPlanOf, set_at}

-- The sets of a step plan are of the task's actions.

set_next : (x : List ℕ) (xs : List (List ℕ)) (t : ℕ) → set_at (x ∷ xs) (t + 1) ≡ set_at xs t
set_next x xs t = by (t + 1 == 0) (not_true (t + 1 == 0) (λ e. let q = test_same (t + 1) 0 e in omega (arith, q)))
  where
    by : (b : Bool) → b ≡ false → (if b then x else set_at xs (t + 1 - 1)) ≡ set_at xs t
    by true e = absurd (let f : true ≡ false = e in cc)
    by false e = let q : t + 1 - 1 ≡ t = omega arith in ap (set_at xs) q

each_member : (n : ℕ) (steps : List (List ℕ)) → ((t : ℕ) → t < length steps → (a : ℕ) → is_in (set_at steps t) a ≡ true → a < n) → AllByRecursion (λ set. AllByRecursion (λ a. a < n) set) steps
each_member n [] h = tt
each_member n (x ∷ xs) h = (
  each_from (λ a. a < n) x (λ a i. h 0 (omega arith) a (among_in x a i)),
  each_member n xs (λ t lt a i. h (t + 1) (omega (arith, lt)) a (ap (λ (set : List ℕ). is_in set a) (set_next x xs t) ∙ i)),
)

pub members_of : (form : OrderedTask) (n : ℕ) (steps : List (List ℕ)) → IsPlanOf form n steps → AllByRecursion (λ set. AllByRecursion (λ a. a < length form.task.actions) set) steps
members_of form n steps plan = each_member (length form.task.actions) steps (λ t lt a i. let l = plan.long in let step = plan.plan.leads t (omega (arith, lt, l)) in (step.runs a i).action)
