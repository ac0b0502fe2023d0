use Rattle.std.proofs.Common.{refl, sym, subst}
use Rattle.solver_pool.specs.own.Serve.{IsEnded}
use Rattle.solver_pool.proofs.Handed.{stays_ended}
use Rattle.solver_pool.proofs.worker.go_ahead.Goals as goal

pub returns-clause-ended : goal.returns-clause-ended
returns-clause-ended g c end =
    stays_ended g.R.Resume record { run = c.job.inside.run; target = c.job.inside.target } _ refl c.work_ahead.ensures.same (subst (IsEnded g.R.Resume) (sym c.job.view_is) end)
