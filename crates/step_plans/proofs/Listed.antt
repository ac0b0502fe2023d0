-- A step plan whose sets are listed in the order is listed, set after set, as its sequence.
use Rattle.std.proofs.Common.{arith, ◌≡◌, ◌<◌, ℕ, zero, suc, ◌+◌, List, [], ◌∷◌, ◌++◌, length, map, Bool, true, Some, Option, inl, inr, refl, sym, ap, subst, ◌∙◌}
use Rattle.std.specs.Prelude.{IsTrue}
use Rattle.std.specs.List.{filter, flat_map}
use Rattle.gt_core.specs.Literal.{is_in, range_from}
use Rattle.gt_core.specs.Task.{initial_state}
use Rattle.gt_core.specs.Lawful.{is_task}
use Rattle.gt_core.specs.Execution.{run}
use Rattle.gt_core.specs.Published.{IsPublished, order_of}
use Rattle.gt_core.specs.Step.{sequence_of}
use Rattle.gt_core.specs.Laws.{StepPlanRunsInOrder, IsRunToGoal}
use Rattle.gt_core.proofs.published.Basics.{Among, same_if}
use Rattle.gt_core.proofs.published.Literals.{among_in, in_among}
use Rattle.gt_core.proofs.published.Pairwise.{filtered, into_filter}
use Rattle.formula_defs.specs.Layout.{action_at}
use Rattle.formula_defs.specs.Variables.{layout_of}
use Rattle.pd_model.specs.Plan.{IsPlan, meets_goal}
use Rattle.pd_model.specs.declared.calls.Call.{Call}
use Rattle.pd_model.specs.declared.parts.Parts.{Parts}
use Rattle.grounding_defs.specs.Grounded.{Grounded, IsGrounded}
use Rattle.grounding_defs.specs.Laws.{AreNumbers, ActionsAreCalls, GoalsAgree}
use Rattle.step_laws.specs.Form.{OrderedTask, member_at, steps_at}
use Rattle.step_laws.proofs.published.SetAt.{set_next}
use Rattle.step_plans.specs.Plans.{AreStepPlan, AreListed, in_order, actions_in}

-- the sets from a time on are these lists, in the order
joined_from :
    (order : List ℕ) (sets : ℕ → ℕ → Bool) (first : ℕ) (steps : List (List ℕ)) → ((t : ℕ) → t < length steps → sets (first + t) ≡ member_at steps t)
    → flat_map (λ t. filter (sets t) order) (range_from first (length steps)) ≡ in_order order steps
joined_from order sets first [] same = refl
joined_from order sets first (x ∷ xs) same =
    let z : first + 0 ≡ first = omega arith in
    let now : sets first ≡ is_in x = ap sets (sym z) ∙ same 0 (omega arith) in
    let head : filter (sets first) order ≡ filter (is_in x) order = ap (λ (p : ℕ → Bool). filter p order) now in
    let rest = joined_from order sets (first + 1) xs (λ t lt. let e : (first + 1) + t ≡ first + (t + 1) = omega arith in
    ap sets e ∙ same (t + 1) (omega arith) ∙ ap (λ (s : List ℕ). is_in s) (set_next x xs t)) in
    ap (λ (s : List ℕ). s ++ flat_map (λ t. filter (sets t) order) (range_from (first + 1) (length xs))) head ∙ ap (λ (s : List ℕ). filter (is_in x) order ++ s) rest

sequence_is : (order : List ℕ) (steps : List (List ℕ)) → sequence_of order (member_at steps) (length steps) ≡ in_order order steps
sequence_is order steps = joined_from order (member_at steps) 0 steps (λ t lt. let z : 0 + t ≡ t = omega arith in ap (member_at steps) z)

pub listed_in_order : (order : List ℕ) (steps : List (List ℕ)) → AreListed order steps → in_order order steps ≡ actions_in steps
listed_in_order order [] listed = refl
listed_in_order order (x ∷ xs) listed =
    ap (λ (s : List ℕ). s ++ in_order order xs) (sym listed.0) ∙ ap (λ (s : List ℕ). x ++ s) (listed_in_order order xs listed.1)

-- actions that run to the goal are calls that are a plan
calls_of_run : (p : Parts) (g : Grounded) (actions : List ℕ) → ActionsAreCalls → GoalsAgree → IsGrounded p g → IsRunToGoal g.task actions → (calls : List Call) × AreNumbers g calls actions × IsPlan p calls
calls_of_run p g actions are_calls agree is r =
    let c = are_calls p g is actions r.runs in
    let goal : IsTrue (meets_goal p (Some c.1)) = (agree p g is c.0 c.1 c.2 (run g.task (initial_state g.task) actions) c.3.same).0 r.reaches in
    (c.0, c.3.named, subst (λ (o : Option _). IsTrue (meets_goal p o)) (sym c.2) goal)

pub step_plans_run :
    (p : Parts) (g : Grounded) (known : List (ℕ × ℕ)) (components : List (List ℕ)) (steps : List (List ℕ)) (n : ℕ)
    → StepPlanRunsInOrder → ActionsAreCalls → GoalsAgree → IsGrounded p g → is_task g.task ≡ true → IsPublished g.task known components → AreStepPlan g.task (order_of components) steps n
    → (calls : List Call) × AreNumbers g calls (in_order (order_of components) steps) × IsPlan p calls
step_plans_run p g known components steps n plan_runs are_calls agree is lawful published plan =
    let r = plan_runs g.task known components (member_at steps) n lawful published plan.plan in
    let e : sequence_of (order_of components) (member_at steps) n ≡ in_order (order_of components) steps =
    ap (λ (k : ℕ). sequence_of (order_of components) (member_at steps) k) (sym plan.long) ∙ sequence_is (order_of components) steps in
    calls_of_run p g (in_order (order_of components) steps) are_calls agree is (subst (λ (xs : List ℕ). IsRunToGoal g.task xs) e r)

-- ---- what an assignment stands for

same_filter : (p q : ℕ → Bool) (xs : List ℕ) → ((a : ℕ) → Among a xs → p a ≡ q a) → filter p xs ≡ filter q xs
same_filter p q [] h = refl
same_filter p q (x ∷ xs) h = rw (h x (inl refl), same_filter p q xs (λ a i. h a (inr i)))

-- members that were taken out of an order stand in it as they did
taken_out : (p : ℕ → Bool) (order : List ℕ) → filter p order ≡ filter (is_in (filter p order)) order
taken_out p order =
    same_filter p (is_in (filter p order)) order
    (λ a i. same_if _ _ (λ x. among_in _ a (into_filter p order a i x)) (λ x. (filtered p order a (in_among _ a x)).1))

listed_from : (order : List ℕ) (p : ℕ → ℕ → Bool) (first n : ℕ) → AreListed order (map (λ t. filter (p t) order) (range_from first n))
listed_from order p first zero = tt
listed_from order p first (suc n) = (taken_out (p first) order, listed_from order p (first + 1) n)

pub steps_listed : (form : OrderedTask) (places : List (List ℕ × ℕ)) (n : ℕ) (values : ℕ → Bool) → AreListed (order_of form.components) (steps_at form places n values)
steps_listed form places n values = listed_from (order_of form.components) (λ t a. values (action_at (layout_of form.task places n) t a)) 0 n
