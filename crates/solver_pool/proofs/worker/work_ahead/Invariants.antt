use Rattle.std.proofs.Common.{◌≡◌}
use Rattle.solver_pool.specs.own.Serve.{IsEnded}
use Rattle.solver_pool.proofs.worker.work_ahead.Given as goal

abbrev pub invariant-loop-turn : goal.invariant-loop-turn
invariant-loop-turn g l = record {
  key : g.R.Resume.key_of l.job.run ≡ g.R.Resume.key_of l.initial.job.run;
  origin : g.R.Resume.origin_of l.job.run ≡ g.R.Resume.origin_of l.initial.job.run;
  target : l.job.target ≡ l.initial.job.target;
  ended : IsEnded g.R.Resume l.initial.job → IsEnded g.R.Resume l.job;
}
