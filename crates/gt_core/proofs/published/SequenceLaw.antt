use Rattle.std.proofs.Common.{arith, ◌≡◌, ◌==◌, ℕ, zero, suc, ◌+◌, ◌*◌, ◌/◌, ◌<◌, List, [], ◌∷◌, ◌++◌, length, Bool, true, not, ◌&&◌, ◌||◌, refl, sym, ap, ◌∙◌, subst}
use Rattle.std.specs.List.{filter, flat_map}
use Rattle.gt_core.specs.Literal.{holds, all_hold, range_from}
use Rattle.gt_core.specs.Task.{Task, action, precondition, initial_state}
use Rattle.gt_core.specs.Lawful.{is_task}
use Rattle.gt_core.specs.Active.{is_active, EffectWithin}
use Rattle.gt_core.specs.Execution.{makes, next_of_one, CanRun, run}
use Rattle.gt_core.specs.Published.{IsPublished, order_of}
use Rattle.gt_core.specs.Step.{IsStepPlan, sequence_of}
use Rattle.gt_core.specs.Laws.{IsRunToGoal}
use Rattle.gt_core.proofs.published.Basics.{Among, each_at, any_same, all_same}
use Rattle.gt_core.proofs.published.Literals.{holds_same}
use Rattle.gt_core.proofs.published.Within.{lawful, literals_within, precondition_within, action_effects_within}
use Rattle.gt_core.proofs.published.RunLaw.{runs_in_order}

-- A step plan listed in published order runs action by action. Two states that give each fact of the task one truth
-- run alike.

abbrev pub Agree : Task → (ℕ → Bool) → (ℕ → Bool) → Type 0
Agree task s u = (f : ℕ) → f < task.facts → s f ≡ u f

module _ (task : Task) (is : is_task task ≡ true) where
  holds_agree : (s u : ℕ → Bool) → Agree task s u → (ls : List ℕ) → ((l : ℕ) → Among l ls → l / 2 < task.facts) → all_hold s ls ≡ all_hold u ls
  holds_agree s u h ls w = all_same (holds s) (holds u) ls (λ l i. holds_same s u l (h (l / 2) (w l i)))

  makes_agree : (s u : ℕ → Bool) → Agree task s u → (a l : ℕ) → a < length task.actions → makes task s a l ≡ makes task u a l
  makes_agree s u h a l lt =
      any_same (is_active s l) (is_active u l) (action task a).effects (λ e i.
      let w = each_at (EffectWithin task.facts) (action task a).effects e (action_effects_within task a is lt) i in
      ap (λ (b : Bool). (e.literal == l) && b) (holds_agree s u h e.condition (λ c j. each_at (λ n. n / 2 < task.facts) e.condition c w.condition j)))

  one_agrees : (s u : ℕ → Bool) → Agree task s u → (a : ℕ) → a < length task.actions → Agree task (next_of_one task s a) (next_of_one task u a)
  one_agrees s u h a lt f below =
      let g = makes_agree s u h a (2 * f) lt in
      let d = makes_agree s u h a (2 * f + 1) lt in
      let now = h f below in
      λ i. g i || (now i && not (d i && not (g i)))

  -- a run from one state is a run from one that agrees with it
  pub run_agrees : (ks : List ℕ) (s u : ℕ → Bool) → Agree task s u → CanRun task s ks → CanRun task u ks × Agree task (run task s ks) (run task u ks)
  run_agrees [] s u h c = (tt, h)
  run_agrees (k ∷ ks) s u h c =
      let lt = c.0.action in
      let r = run_agrees ks (next_of_one task s k) (next_of_one task u k) (one_agrees s u h k lt) c.1 in
      let able = sym (holds_agree s u h (precondition task k) (λ l i. each_at (λ n. n / 2 < task.facts) (precondition task k) l (precondition_within task k is lt) i)) ∙ c.0.able in (
        (record { action = lt; able = able }, r.0),
        r.1,
      )

pub run_joined : (task : Task) (s : ℕ → Bool) (xs ys : List ℕ) → run task s (xs ++ ys) ≡ run task (run task s xs) ys
run_joined task s [] ys = refl
run_joined task s (x ∷ xs) ys = run_joined task (next_of_one task s x) xs ys

pub can_run_joined : (task : Task) (s : ℕ → Bool) (xs ys : List ℕ) → CanRun task s xs → CanRun task (run task s xs) ys → CanRun task s (xs ++ ys)
can_run_joined task s [] ys c d = d
can_run_joined task s (x ∷ xs) ys c d = (c.0, can_run_joined task (next_of_one task s x) xs ys c.1 d)

module _ (task : Task) (clauses : List (ℕ × ℕ)) (components : List (List ℕ)) (steps : ℕ → ℕ → Bool) (n : ℕ) (is : is_task task ≡ true) (published : IsPublished task clauses components) (plan : IsStepPlan task (order_of components) steps n) where
  abbrev order : List ℕ
  order = order_of components

  abbrev listed : ℕ → List ℕ
  listed t = filter (steps t) order

  runs_from : (m first : ℕ) (u : ℕ → Bool) → first + m ≡ n → Agree task (plan.states first) u → CanRun task u (flat_map listed (range_from first m)) × Agree task (plan.states n) (run task u (flat_map listed (range_from first m)))
  runs_from zero first u e h = let same : first ≡ n = omega arith in (tt, subst (λ (k : ℕ). Agree task (plan.states k) u) same h)
  runs_from (suc m) first u e h =
      let one = runs_in_order task clauses components (plan.states first) (steps first) (plan.states (first + 1)) published (plan.leads first (omega arith)) in
      let moved = run_agrees task is (listed first) (plan.states first) u h one.runs in
      let after : Agree task (plan.states (first + 1)) (run task u (listed first)) = λ f lt. sym (one.leads f lt) ∙ moved.1 f lt in
      let rest = runs_from m (first + 1) (run task u (listed first)) (omega arith) after in (
        can_run_joined task u (listed first) (flat_map listed (range_from (first + 1) m)) moved.0 rest.0,
        λ f lt. rest.1 f lt ∙ ap (λ (v : ℕ → Bool). v f) (sym (run_joined task u (listed first) (flat_map listed (range_from (first + 1) m)))),
      )

  pub plan_runs : IsRunToGoal task (sequence_of (order_of components) steps n)
  plan_runs =
      let r = runs_from n 0 (initial_state task) (omega arith) plan.begins in
      let l = literals_within task.facts task.goal (lawful task is).goal in
      record {
        runs = r.0;
        reaches = record {
          hopeful = plan.reaches.hopeful;
          reached = sym (holds_agree task is (plan.states n) (run task (initial_state task) (sequence_of (order_of components) steps n)) r.1 task.goal (λ g i. each_at (λ n. n / 2 < task.facts) task.goal g l i)) ∙ plan.reaches.reached;
        };
      }
