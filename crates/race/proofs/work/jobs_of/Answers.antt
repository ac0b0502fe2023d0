use Rattle.std.proofs.Common.{◌≡◌, false, map, ◌∙◌, sym, ap, subst}
use Rattle.std.specs.List.{AllByRecursion}
use Rattle.std.proofs.lemmas.Result.{IfOk-weaker}
use Rattle.solver_pool.specs.Job.{JobView}
use Rattle.horizon_run.specs.Run.{RunView}
use Rattle.race.specs.Runs.{jobs_at, run_at, moved_all}
use Rattle.race.proofs.Packed.{at_targets, jobs_sound}
use Rattle.race.proofs.work.jobs_of.Goals as goal

pub returns-clause-sound : goal.returns-clause-sound
returns-clause-sound c =
    IfOk-weaker c.list_jobs.result (λ jobs. jobs.items ≡ jobs_at c.args.runs.items c.args.grants.now) (λ jobs. AllByRecursion (λ (j : JobView RunView). j.run.spoilt ≡ false) jobs.items)
    (λ jobs is. subst (AllByRecursion (λ (j : JobView RunView). j.run.spoilt ≡ false)) (sym is) (jobs_sound c.args.runs.items c.args.grants.now c.requires.sound)) c.list_jobs.ensures

pub returns-clause-moved : goal.returns-clause-moved
returns-clause-moved c =
    IfOk-weaker c.list_jobs.result (λ jobs. jobs.items ≡ jobs_at c.args.runs.items c.args.grants.now) (λ jobs. map run_at jobs.items ≡ moved_all c.args.runs.items c.args.grants.now)
    (λ jobs is. ap (map run_at) is ∙ at_targets c.args.runs.items c.args.grants.now c.requires.fits) c.list_jobs.ensures
