use Rattle.crossbeam_queue.specs.Passes.{view}
use Rattle.solver_pool.specs.Ring.{IsRingPass}
use Rattle.solver_pool.specs.own.Left.{left_in}
use Rattle.solver_pool.specs.own.Worker.{StaysAtWork, WorksAlone}
use Rattle.solver_pool.proofs.worker.finish.Given as goal

abbrev pub invariant-loop : goal.invariant-loop
invariant-loop g l = record {
  pass : IsRingPass g.R.Resume l.ring l.worker.pass;
  alone : WorksAlone g.R.Resume l.worker;
  work : StaysAtWork g.R.Resume l.fn.worker l.worker;
}

abbrev pub decreases-loop : goal.decreases-loop
decreases-loop g l = left_in (view l.worker.pass.pass)
