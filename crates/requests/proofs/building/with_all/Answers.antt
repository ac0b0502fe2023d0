use Rattle.requests.proofs.Chain.{one_with}
use Rattle.requests.proofs.building.with_all.Goals as goal

pub loop-argument-preserved : goal.loop-argument-preserved
loop-argument-preserved c = one_with _ _ _ _ _ _ c.loop-argument-test.true c.loop-argument.invariant c.in_ok-command.ensures
