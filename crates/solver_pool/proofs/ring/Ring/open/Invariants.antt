use Rattle.std.proofs.Common.{◌≡◌, ◌++◌}
use Rattle.crossbeam_queue.specs.Passes.{view}
use Rattle.solver_pool.specs.Ring.{IsOwnerPass, IsOpened}
use Rattle.solver_pool.proofs.ring.Ring.open.Given as goal

abbrev pub invariant-loop-job : goal.invariant-loop-job
invariant-loop-job g l = record {
  owner : IsOwnerPass g.R.Resume l.ring l.owner;
  opened : IsOpened g.R.Resume l.yielded (view l.owner.pass);
  whole : l.yielded ++ l.job-iterator.rest.items ≡ l.fn.jobs;
}
