-- What the crates below promise of tasks and step plans, gathered.
use Rattle.gt_core.specs.Laws.{PublishedIsUnique, NeverItself}
use Rattle.two_invariants.specs.Laws.{OneListOfInvariants}
use Rattle.grounding_defs.specs.Laws.{OneResult}
use Rattle.step_plans.specs.Laws.{ShortPlansAreStepPlans, OtherPlansAreLonger, SetsAreLists}

-- the laws of tasks and step plans on which claims of a task rest
pub record TaskLaws : Type 0 where
  pub invariants : OneListOfInvariants
  pub unique : PublishedIsUnique
  pub itself : NeverItself
  pub one_result : OneResult
  pub short : ShortPlansAreStepPlans
  pub longer : OtherPlansAreLonger
  pub lists : SetsAreLists
