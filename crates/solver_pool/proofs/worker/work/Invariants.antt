use Rattle.solver_pool.specs.Ring.{IsRingPass}
use Rattle.solver_pool.specs.own.Worker.{StaysAtWork}
use Rattle.solver_pool.proofs.worker.work.Given as goal

abbrev pub invariant-loop-turn : goal.invariant-loop-turn
invariant-loop-turn g l = record {
  pass : IsRingPass g.R.Resume l.ring l.worker.pass;
  work : StaysAtWork g.R.Resume l.fn.worker l.worker;
}
