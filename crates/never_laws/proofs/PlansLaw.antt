-- A plan of the files is a run of actions to the goal, and a certificate leaves none.
use Rattle.pd_model.specs.declared.parts.Parts.{Parts}
use Rattle.grounding_defs.specs.Grounded.{Grounded, IsGrounded}
use Rattle.gt_core.specs.Laws.{HasNoRun}
use Rattle.search_laws.specs.Plans.{PlansAreRuns}
use Rattle.never_laws.specs.Plans.{HasNoPlan}

-- where the ground task has no run to the goal, the files have no plan
pub no_plan : PlansAreRuns → (p : Parts) (g : Grounded) → IsGrounded p g → HasNoRun g.task → HasNoPlan p
no_plan are p g is none calls plan = let r = are p g calls is plan in none r.0 r.2
