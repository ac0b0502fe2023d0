use Rattle.horizon_run.proofs.Grants.{same-origin}
use Rattle.horizon_run.proofs.Begun.{begun-on}
use Rattle.horizon_run.proofs.turns.StartedResume.advance.Goals as goal

pub returns-clause-moved : goal.returns-clause-moved
returns-clause-moved c = begun-on c.args.self.now c.go_on.new.self c.args.conflicts c.go_on.result c.go_on.ensures.adds_up c.go_on.ensures.moved c.go_on.ensures.after

pub returns-clause-origin : goal.returns-clause-origin
returns-clause-origin c = same-origin c.args.self.now c.go_on.new.self c.go_on.ensures.formula c.go_on.ensures.means
