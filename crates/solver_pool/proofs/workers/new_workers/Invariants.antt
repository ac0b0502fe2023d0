use Rattle.std.proofs.Common.{◌≡◌, true, vec_len}
use Rattle.crossbeam_queue.specs.Passes.{view}
use Rattle.solver_pool.specs.Ring.{IsRingPass}
use Rattle.solver_pool.specs.own.Worker.{StartsWorkers}
use Rattle.solver_pool.proofs.workers.new_workers.Given as goal

abbrev pub invariant-loop-i : goal.invariant-loop-i
invariant-loop-i g l = record {
  pass : IsRingPass g.R.Resume l.ring l.owner.pass;
  owns : (view l.owner.pass.pass).owner ≡ true;
  started : StartsWorkers g.R.Resume l.ring l.initial.owner l.owner l.workers.items;
  many : vec_len l.workers ≡ l._i;
}
