use Rattle.std.proofs.Common.{◌≡◌, min, take}
use Rattle.solver_pool.specs.own.Turns.{below_target}
use Rattle.solver_pool.proofs.turns.worker_count.Given as goal

abbrev pub invariant-loop-job : goal.invariant-loop-job
invariant-loop-job g l = l.count ≡ min l.workers (below_target g.R.Resume (take l.job-index l.jobs))
