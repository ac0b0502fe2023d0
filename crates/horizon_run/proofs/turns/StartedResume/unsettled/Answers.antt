use Rattle.horizon_run.proofs.Begun.{begun-rests}
use Rattle.horizon_run.proofs.turns.StartedResume.unsettled.Goals as goal

pub returns-clause-stays : goal.returns-clause-stays
returns-clause-stays c = begun-rests c.args.self.now c.keeps_laws.ensures.settled
