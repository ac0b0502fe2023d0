-- The steps of an all-step plan run in every order, and their calls are a plan of the files in every order.
use Rattle.std.proofs.Common.{◌≡◌, ◌<◌, ◌/◌, ℕ, ◌+◌, Bool, true, List, [], ◌∷◌, length, map, arith, refl, sym, ap, subst, ◌∙◌, Option, Some}
use Rattle.std.specs.Prelude.{IsTrue}
use Rattle.gt_core.specs.Literal.{is_in, holds, all_hold}
use Rattle.gt_core.specs.Task.{Task, initial_state}
use Rattle.gt_core.specs.Lawful.{is_task}
use Rattle.gt_core.specs.Execution.{CanRun, run}
use Rattle.gt_core.specs.AllStep.{IsAllStepPlan, HasMembersOnce}
use Rattle.gt_core.specs.Published.{order_of}
use Rattle.gt_core.specs.Laws.{EachOrderRuns, IsRunToGoal}
use Rattle.gt_core.proofs.published.Basics.{each_at, all_same}
use Rattle.gt_core.proofs.published.Literals.{holds_same}
use Rattle.gt_core.proofs.published.Within.{lawful, literals_within}
use Rattle.gt_core.proofs.published.SequenceLaw.{Agree, run_agrees, run_joined, can_run_joined}
use Rattle.pd_model.specs.Plan.{IsPlan, meets_goal}
use Rattle.pd_model.specs.declared.calls.Call.{Call}
use Rattle.pd_model.specs.declared.parts.Parts.{Parts}
use Rattle.grounding_defs.specs.Grounded.{Grounded}
use Rattle.grounding_defs.specs.Laws.{AreNumbers}
use Rattle.horizon_rates.specs.declared.settings.Settings.{Settings}
use Rattle.race_outcome.specs.declared.line.Line.{Line}
use Rattle.race_outcome.specs.declared.end.RaceEnd.TheVariants as races
use Rattle.race_outcome.specs.Ends.{line_view, end_view}
use Rattle.step_laws.specs.Form.{member_at}
use Rattle.step_laws.proofs.published.SetAt.{set_next}
use Rattle.step_plans.specs.Plans.{actions_in}
use Rattle.plan_report.specs.Report.{report_of}
use Rattle.plan_report.specs.Laws.{IsSmall}
use Rattle.requests.specs.declared.request.Stepping.TheVariants.{All}
use Rattle.commands.specs.Stepping.{places_by, is_plan_by}
use Rattle.commands.specs.Tasks.{IsReady}
use Rattle.commands.specs.Raced.{ComesTo}
use Rattle.plan_top.specs.Headline.{AreOrders, RunInEveryOrder, EveryOrderRuns}
use Rattle.plan_top.specs.Laws.{Laws}
use Rattle.plan_top.proofs.published.Claims.{of_grounded, has_calls}

module _ (task : Task) (is : is_task task ≡ true) (each : EachOrderRuns) (order : List ℕ) (sets : ℕ → ℕ → Bool) (n : ℕ) (plan : IsAllStepPlan task order sets n) where
  abbrev states : ℕ → ℕ → Bool
  states = plan.plan.states

  -- the sets from a time on, each listed in some order, run from a state that agrees with the one at that time
  runs_from :
      (first : ℕ) (steps lists : List (List ℕ)) (u : ℕ → Bool) → first + length steps ≡ n → ((t : ℕ) → t < length steps → sets (first + t) ≡ member_at steps t) → AreOrders steps lists
      → Agree task (states first) u → CanRun task u (actions_in lists) × Agree task (states n) (run task u (actions_in lists))
  runs_from first [] [] u e same orders h = let last : first ≡ n = omega (arith, e) in (tt, subst (λ (k : ℕ). Agree task (states k) u) last h)
  runs_from first [] (l ∷ ls) u e same orders h = absurd orders
  runs_from first (x ∷ xs) [] u e same orders h = absurd orders
  runs_from first (x ∷ xs) (l ∷ ls) u e same orders h =
      let within : first < n = omega (arith, e) in
      let here : first + 0 ≡ first = omega arith in
      let now : sets first ≡ is_in x = ap sets (sym here) ∙ same 0 (omega arith) in
      let one = each task order (states first) (sets first) (states (first + 1)) l (record { step = plan.plan.leads first within; none = plan.none first within })
      (subst (λ (members : ℕ → Bool). HasMembersOnce members l) (sym now) orders.0) in
      let moved = run_agrees task is l (states first) u h one.0 in
      let after : Agree task (states (first + 1)) (run task u l) = λ f lt. sym (one.1 f lt) ∙ moved.1 f lt in
      let later : (t : ℕ) → t < length xs → sets ((first + 1) + t) ≡ member_at xs t = λ t lt.
      let next : (first + 1) + t ≡ first + (t + 1) = omega arith in
      ap sets next ∙ (same (t + 1) (omega (arith, lt)) ∙ ap (λ (s : List ℕ). is_in s) (set_next x xs t)) in
      let rest = runs_from (first + 1) xs ls (run task u l) (omega (arith, e)) later orders.1 after in (
        can_run_joined task u l (actions_in ls) moved.0 rest.0,
        λ f lt. rest.1 f lt ∙ ap (λ (v : ℕ → Bool). v f) (sym (run_joined task u l (actions_in ls))),
      )

  -- so they run to the goal
  run_to_goal : (steps lists : List (List ℕ)) → length steps ≡ n → ((t : ℕ) → t < length steps → sets t ≡ member_at steps t) → AreOrders steps lists → IsRunToGoal task (actions_in lists)
  run_to_goal steps lists long same orders =
      let from_first : (t : ℕ) → t < length steps → sets (0 + t) ≡ member_at steps t = λ t lt. let here : 0 + t ≡ t = omega arith in ap sets here ∙ same t lt in
      let r = runs_from 0 steps lists (initial_state task) (omega (arith, long)) from_first orders plan.plan.begins in
      let within = literals_within task.facts task.goal (lawful task is).goal in
      let last = run task (initial_state task) (actions_in lists) in
      let goal : all_hold (states n) task.goal ≡ all_hold last task.goal =
      all_same (holds (states n)) (holds last) task.goal (λ l i. holds_same (states n) last l (r.1 (l / 2) (each_at (λ g. g / 2 < task.facts) task.goal l within i))) in
      record { runs = r.0; reaches = record { hopeful = plan.plan.reaches.hopeful; reached = sym goal ∙ plan.plan.reaches.reached } }

module _ (laws : Laws) (settings : Settings) (task : Parts) (g : Grounded) (ready : IsReady task g) where
  -- in each order the calls are a plan
  calls_of : (actions : List ℕ) → IsRunToGoal g.task actions → (calls : List Call) × AreNumbers g calls actions × IsPlan task calls
  calls_of actions r =
      let c = laws.actions_are_calls task g ready.grounded actions r.runs in
      let goal : IsTrue (meets_goal task (Some c.1)) = (laws.goals_agree task g ready.grounded c.0 c.1 c.2 (run g.task (initial_state g.task) actions) c.3.same).0 r.reaches in
      (c.0, c.3.named, subst (λ (o : Option _). IsTrue (meets_goal task o)) (sym c.2) goal)

  pub every_order : (horizon : ℕ) (steps : List (List ℕ)) (lines : List Line) → ComesTo (places_by All) (is_plan_by All) g.task settings (races.Plan horizon steps lines)
      → IsSmall settings.budget (end_view (races.Plan horizon steps lines)) → EveryOrderRuns (report_of task g settings.budget (end_view (races.Plan horizon steps lines))) task
  every_order horizon steps lines comes small =
      let text : List ℕ = report_of task g settings.budget (end_view (races.Plan horizon steps lines)) in
      let told = laws.steps task g settings.budget horizon steps (map line_view lines) ready.well small (has_calls laws All settings task g ready horizon steps lines comes) in
      of_grounded laws task g ready comes.clauses comes.components comes.ordered (λ h clauses components. RunInEveryOrder text task h) (
        steps,
        told,
        λ lists orders.
            let p = comes.plan in
            calls_of (actions_in lists)
            (run_to_goal g.task (laws.is_task task g ready.grounded ready.fits) laws.each_order (order_of comes.components) (member_at steps) horizon p.plan steps lists p.long (λ t lt. refl) orders),
      )
