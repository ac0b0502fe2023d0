use Rattle.std.proofs.Common.{◌≡◌, true}
use Rattle.crossbeam_queue.specs.Passes.{view, IsPassOf}
use Rattle.layer_tests.proofs.tests.pool.drains.Given as goal

abbrev pub invariant-loop-horizon : goal.invariant-loop-horizon
invariant-loop-horizon g l = IsPassOf l.ring.queue l.owner.pass × ((view l.owner.pass).owner ≡ true)
