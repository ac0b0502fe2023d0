-- What steps that are a plan mean for the task and for a text that has their calls.
use Rattle.std.proofs.Common.{◌≡◌, ℕ, Bool, true, false, List, [], ◌∷◌, length, refl, sym, subst, arith, Option, Some, None, Ok, if◌then◌else◌}
use Rattle.std.specs.Prelude.{IsTrue, Contains, slice_get}
use Rattle.std.specs.List.{list_all}
use Rattle.report_lines.specs.Lines.{lines_of}
use Rattle.clause_base.specs.Formula.{IsModel, assignment_of}
use Rattle.gt_core.specs.Published.{order_of}
use Rattle.pd_model.specs.Fits.{is_call}
use Rattle.pd_model.specs.Exec.{exec_schema}
use Rattle.pd_model.specs.Plan.{IsPlan, exec_all, meets_goal}
use Rattle.pd_model.specs.declared.atoms.Atom.{Atom}
use Rattle.pd_model.specs.declared.calls.Call.{Call}
use Rattle.pd_model.specs.declared.parts.Parts.{Parts}
use Rattle.pd_plan.specs.PlanFile.{plan_file}
use Rattle.grounding_defs.specs.Grounded.{Grounded}
use Rattle.grounding_defs.specs.Laws.{AreNumbers}
use Rattle.step_laws.specs.Form.{IsOrderedTask, AreSets, member_at, steps_at}
use Rattle.step_laws.specs.Stepping.{IsStepping}
use Rattle.step_encoding.specs.Laws.{by_components}
use Rattle.all_steps.specs.Form.{by_both_ways}
use Rattle.step_plans.specs.Plans.{AreStepPlan, AreListed, actions_in}
use Rattle.plan_report.specs.Report.{plan_line, calls_by_step, told_lines, plan_text}
use Rattle.plan_report.specs.Laws.{IsSmallPlan, TellsSteps}
use Rattle.step_plans.specs.Known.{IsOrdered, form_of, formula_at}
use Rattle.requests.specs.declared.request.Stepping.{Stepping}
use Rattle.requests.specs.declared.request.Stepping.TheVariants.{Exists, All}
use Rattle.plan_tasks.specs.Stepping.{places_by, is_plan_by}
use Rattle.plan_tasks.specs.Tasks.{IsReady}
use Rattle.plan_tasks.proofs.published.Claims.{as_barred, of_grounded}
use Rattle.plan_tasks.specs.ToldPlans.{HasStepPlanOf, PlanRunsIn}
use Rattle.plan_tasks.specs.PlanLaws.{PlanLaws}

-- calls that are executed are calls of the task
pub calls_fit : (p : Parts) (s : List Atom) (calls : List Call) → IsTrue (meets_goal p (exec_all p s calls)) → list_all (is_call p) calls ≡ true
calls_fit p s [] h = refl
calls_fit p s (call ∷ calls) h = step (is_call p call) refl (exec_schema p s call.objects (slice_get p.schemas call.schema)) (λ t. calls_fit p t calls) h
  where
    step : (b : Bool) → is_call p call ≡ b → (o : Option (List Atom)) → ((t : List Atom) → IsTrue (meets_goal p (exec_all p t calls)) → list_all (is_call p) calls ≡ true)
        → IsTrue (meets_goal p (elim (if b then o else None) [ None ↦ None | Some t ↦ exec_all p t calls ])) → list_all (is_call p) (call ∷ calls) ≡ true
    step true e None more k = absurd (let never : false ≡ true = k in cc)
    step true e (Some t) more k = rw e (more t k)
    step false e o more k = absurd (let never : false ≡ true = k in cc)

-- what the values of the formulas of a kind stand for
pub stepping_by : (how : Stepping) → IsStepping (places_by how) (is_plan_by how)
stepping_by Exists = by_components
stepping_by All = by_both_ways

-- what is known of a ground task, and its order
module _ (laws : PlanLaws) (task : Parts) (g : Grounded) (ready : IsReady task g) (clauses : List (ℕ × ℕ)) (components : List (List ℕ)) (ordered : IsOrdered g.task clauses components) where
  pub is_form : IsOrderedTask (form_of g.task clauses components)
  is_form = record {
    lawful = laws.is_task task g ready.grounded ready.fits;
    known = ordered.known.listed;
    facts = refl;
    hold = laws.hold g.task clauses ordered.known;
    published = ordered.published;
  }

  -- steps that are a plan, each listed in published order
  module _ (how : Stepping) (horizon : ℕ) (steps : List (List ℕ)) (plan : AreSets (is_plan_by how) g.task (order_of components) steps horizon) (listed : AreListed (order_of components) steps) where
    are_plan : AreStepPlan g.task (order_of components) steps horizon
    are_plan = record { long = plan.long; plan = (as_barred how g.task (order_of components) (member_at steps) horizon plan.plan).plan }

    pub its_calls : (calls : List Call) × AreNumbers g calls (actions_in steps) × IsPlan task calls
    its_calls =
        let r = laws.run task g clauses components steps horizon ready.grounded (laws.is_task task g ready.grounded ready.fits) ordered.published are_plan in
        (r.0, subst (AreNumbers g r.0) (laws.in_order (order_of components) steps listed) r.1, r.2)

    -- a text that is a plan file of their calls, and has the line of the plan and the lines of the steps
    pub runs_in : (text : List ℕ) (calls : List Call) → AreNumbers g calls (actions_in steps) → IsPlan task calls → plan_file task text ≡ Ok calls
        → Contains (lines_of text) (plan_line horizon (length (actions_in steps))) → TellsSteps text (calls_by_step task g steps) → PlanRunsIn how horizon text task
    runs_in text calls numbers runs read line told =
        let once = laws.once g.task clauses components steps ordered.published listed in
        (calls, read, runs, of_grounded laws.of_tasks task g ready clauses components ordered (HasStepPlanOf how horizon text task calls) (steps, line, told, numbers, plan, listed, once))

    -- the text of the plan is such
    pub text_runs : IsSmallPlan horizon steps → PlanRunsIn how horizon (plan_text task g horizon steps) task
    text_runs small =
        let c = its_calls in
        let fit = calls_fit task task.init c.0 c.2 in
        let text : List ℕ = plan_text task g horizon steps in
        let line : List ℕ = plan_line horizon (length (actions_in steps)) in
        let back = laws.texts_back task g horizon steps c.0 ready.well small c.1 fit in
        let first : Contains (told_lines task g horizon steps) line = (0, omega arith, refl) in
        runs_in text c.0 c.1 c.2 (laws.texts task g horizon steps c.0 ready.well small c.1 fit)
        (subst (λ (ls : List (List ℕ)). Contains ls line) (sym back) first) (line ∷ [], back, refl)

  -- the steps that the values of a model of a formula stand for are a plan, listed in published order
  pub model_is_plan : (how : Stepping) (horizon : ℕ) (values : List Bool) → IsModel (formula_at (places_by how) (form_of g.task clauses components) horizon) values
      → AreSets (is_plan_by how) g.task (order_of components) (steps_at (form_of g.task clauses components) (places_by how g.task components) horizon (assignment_of values)) horizon
  model_is_plan how horizon values model = (stepping_by how).plans (form_of g.task clauses components) is_form horizon (assignment_of values) model.satisfies

  pub model_is_listed : (how : Stepping) (horizon : ℕ) (values : List Bool)
      → AreListed (order_of components) (steps_at (form_of g.task clauses components) (places_by how g.task components) horizon (assignment_of values))
  model_is_listed how horizon values = laws.listed (form_of g.task clauses components) (places_by how g.task components) horizon (assignment_of values)

  -- and their text is that of a plan
  pub model_runs : (how : Stepping) (horizon : ℕ) (values : List Bool) → IsModel (formula_at (places_by how) (form_of g.task clauses components) horizon) values
      → IsSmallPlan horizon (steps_at (form_of g.task clauses components) (places_by how g.task components) horizon (assignment_of values))
      → PlanRunsIn how horizon (plan_text task g horizon (steps_at (form_of g.task clauses components) (places_by how g.task components) horizon (assignment_of values))) task
  model_runs how horizon values model small =
      text_runs how horizon (steps_at (form_of g.task clauses components) (places_by how g.task components) horizon (assignment_of values))
      (model_is_plan how horizon values model) (model_is_listed how horizon values) small
