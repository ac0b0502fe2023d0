-- What the crates below promise of plans and reports, gathered.
use Rattle.report_lines.specs.Laws.{FrontsSayNoMore, ReportsSayEntries}
use Rattle.gt_core.specs.Laws.{PublishedIsUnique, NeverItself, EachOrderRuns}
use Rattle.two_invariants.specs.Laws.{InvariantsHold, OneListOfInvariants}
use Rattle.grounding_defs.specs.Laws.{OneResult, GroundedIsTask, ActionsAreCalls, GoalsAgree}
use Rattle.requests.specs.Seen.{NumbersAreSettings}
use Rattle.plan_tasks.specs.Laws.{TaskLaws}
use Rattle.plan_tasks.specs.PlanLaws.{PlanLaws}
use Rattle.step_plans.specs.Laws.{StepPlansRun, ShortPlansAreStepPlans, OtherPlansAreLonger, SetsAreLists, ListedHaveActionsOnce, ListedAreInOrder, SetsAtPlacesAreListed}
use Rattle.proof_log.specs.Laws.{OneSpelling, OnePlace, LinesAreRead, TextsAreFit}
use Rattle.plan_report.specs.Laws.{LinesAreReadBack, PlansAreRead, StepsAreTold, HorizonsAreTold}

-- all laws on which the promises of `run` rest
pub record Laws : Type 0 where
  pub of_tasks : TaskLaws
  pub of_plans : PlanLaws
  pub settings : NumbersAreSettings
  pub fronts : FrontsSayNoMore
  pub entries : ReportsSayEntries
  pub hold : InvariantsHold
  pub invariants : OneListOfInvariants
  pub unique : PublishedIsUnique
  pub itself : NeverItself
  pub each_order : EachOrderRuns
  pub one_result : OneResult
  pub is_task : GroundedIsTask
  pub actions_are_calls : ActionsAreCalls
  pub goals_agree : GoalsAgree
  pub run : StepPlansRun
  pub short : ShortPlansAreStepPlans
  pub longer : OtherPlansAreLonger
  pub lists : SetsAreLists
  pub once : ListedHaveActionsOnce
  pub in_order : ListedAreInOrder
  pub listed : SetsAtPlacesAreListed
  pub lines : LinesAreReadBack
  pub plans : PlansAreRead
  pub steps : StepsAreTold
  pub horizons : HorizonsAreTold
  pub one_spelling : OneSpelling
  pub one_place : OnePlace
  pub proof_lines : LinesAreRead
  pub no_fault : TextsAreFit
