-- What a text promises of a task that has a plan.
use Rattle.std.specs.List.{AllByRecursion}
use Rattle.std.specs.Prelude.{◌≡◌, ℕ, List, length, Ok, Contains}
use Rattle.report_lines.specs.Lines.{lines_of}
use Rattle.pd_model.specs.Plan.{IsPlan}
use Rattle.pd_model.specs.declared.calls.Call.{Call}
use Rattle.pd_model.specs.declared.parts.Parts.{Parts}
use Rattle.pd_plan.specs.PlanFile.{plan_file}
use Rattle.gt_core.specs.Published.{order_of}
use Rattle.grounding_defs.specs.Grounded.{Grounded}
use Rattle.grounding_defs.specs.Laws.{AreNumbers}
use Rattle.step_laws.specs.Form.{AreSets}
use Rattle.step_plans.specs.Plans.{AreListed, HasActionsOnce, actions_in}
use Rattle.plan_report.specs.Report.{plan_line, calls_by_step}
use Rattle.plan_report.specs.Laws.{TellsSteps}
use Rattle.requests.specs.declared.request.Stepping.{Stepping}
use Rattle.plan_tasks.specs.Stepping.{is_plan_by}
use Rattle.plan_tasks.specs.Claims.{OfGrounded}

-- Under its step lines, which are as many as its line of the plan says, the text has the calls of a plan in so many of these steps,
-- each step in published order, and no others; and a step has actions of the task, none of them twice.
abbrev pub HasStepPlanOf : Stepping → ℕ → List ℕ → Parts → List Call → Grounded → List (ℕ × ℕ) → List (List ℕ) → Type 0
HasStepPlanOf how n text task calls g clauses components =
    (steps : List (List ℕ)) × Contains (lines_of text) (plan_line n (length (actions_in steps))) × TellsSteps text (calls_by_step task g steps)
    × AreNumbers g calls (actions_in steps) × AreSets (is_plan_by how) g.task (order_of components) steps n × AreListed (order_of components) steps × AllByRecursion (HasActionsOnce g.task) steps

-- the text is a plan file whose calls are a plan, and its steps, which are so many, are a step plan
abbrev pub PlanRunsIn : Stepping → ℕ → List ℕ → Parts → Type 0
PlanRunsIn how n text task = (calls : List Call) × (plan_file task text ≡ Ok calls) × IsPlan task calls × OfGrounded task (HasStepPlanOf how n text task calls)

-- the same, of some number of steps
abbrev pub PlanRuns : Stepping → List ℕ → Parts → Type 0
PlanRuns how text task = (n : ℕ) × PlanRunsIn how n text task
