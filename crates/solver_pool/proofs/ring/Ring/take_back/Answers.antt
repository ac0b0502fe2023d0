use Rattle.solver_pool.proofs.Keeps.{merges}
use Rattle.solver_pool.proofs.ring.Ring.take_back.Goals as goal

pub absorb-requires-clause-rule : goal.absorb-requires-clause-rule
absorb-requires-clause-rule g c = merges g.R.Resume _ _ _ _ c.requires.0.1 c.args.ended.live
