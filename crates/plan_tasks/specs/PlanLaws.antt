-- What the crates below promise of plans and their texts, gathered.
use Rattle.two_invariants.specs.Laws.{InvariantsHold}
use Rattle.grounding_defs.specs.Laws.{GroundedIsTask}
use Rattle.plan_tasks.specs.Laws.{TaskLaws}
use Rattle.step_plans.specs.Laws.{StepPlansRun, ListedHaveActionsOnce, ListedAreInOrder, SetsAtPlacesAreListed}
use Rattle.plan_report.specs.Laws.{PlanTextsAreRead, PlanTextsAreReadBack}

-- the laws by which the text of a step plan tells a plan
pub record PlanLaws : Type 0 where
  pub of_tasks : TaskLaws
  pub hold : InvariantsHold
  pub is_task : GroundedIsTask
  pub run : StepPlansRun
  pub once : ListedHaveActionsOnce
  pub in_order : ListedAreInOrder
  pub listed : SetsAtPlacesAreListed
  pub texts : PlanTextsAreRead
  pub texts_back : PlanTextsAreReadBack
