-- What the crates below promise of runs, of certificates and of plan files, gathered.
use Rattle.grounding_defs.specs.Laws.{ActionsAreCalls, GoalsAgree, OneResult, GroundedIsTask}
use Rattle.search_laws.specs.Plans.{PlansAreRuns}
use Rattle.never_laws.specs.Plans.{ExcludedGoalHasNoPlan, ForwardCertificateHasNoPlan, BackwardCertificateHasNoPlan, CertifiedWeightsHaveNoPlan}
use Rattle.never_text.specs.Laws.{WrittenIsRead}
use Rattle.pd_plan.specs.Laws.{NothingIsSpelled, CommentsAddNone, CallsAreSpelled, SpelledAreRead}

-- the laws on which the promises rest
pub record TopLaws : Type 0 where
  pub calls : ActionsAreCalls
  pub agree : GoalsAgree
  pub one_result : OneResult
  pub runs : PlansAreRuns
  pub excluded : ExcludedGoalHasNoPlan
  pub forward : ForwardCertificateHasNoPlan
  pub backward : BackwardCertificateHasNoPlan
  pub weights : CertifiedWeightsHaveNoPlan
  pub is_task : GroundedIsTask
  pub written : WrittenIsRead
  pub nothing : NothingIsSpelled
  pub comment : CommentsAddNone
  pub call : CallsAreSpelled
  pub reads : SpelledAreRead
