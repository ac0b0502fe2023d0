use Rattle.horizon_run.proofs.Begun.{begun-moved}
use Rattle.horizon_run.proofs.turns.StartedResume.granted.Goals as goal

pub returns-clause-moved : goal.returns-clause-moved
returns-clause-moved c e = begun-moved c.args.self.now (c.keeps_laws.ensures.moved e)
