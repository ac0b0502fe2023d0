use Rattle.std.proofs.Common.{◌≡◌}
use Rattle.crossbeam_queue.specs.Passes.{view, IsPassOf}
use Rattle.layer_tests.proofs.tests.pool.serves.Given as goal

abbrev pub invariant-loop-turn : goal.invariant-loop-turn
invariant-loop-turn g l = IsPassOf l.ring.queue l.pass.pass × ((view l.pass.pass).owner ≡ (view l.initial.pass.pass).owner)
