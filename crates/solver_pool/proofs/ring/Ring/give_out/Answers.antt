use Rattle.solver_pool.proofs.Keeps.{forks}
use Rattle.solver_pool.proofs.ring.Ring.give_out.Goals as goal

pub another-requires-clause-rule : goal.another-requires-clause-rule
another-requires-clause-rule g c = forks g.R.Resume _ _ c.requires.1
