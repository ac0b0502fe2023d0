use Rattle.pd_model.proofs.published.States.{added}
use Rattle.pd_model.proofs.state.State.add.Goals as goal

pub returns : goal.returns
returns c = rw (← c.self.view_is) (added c.self.inside.atoms.keys c.insert.new.self.keys c.args.atom c.in_ok-insert.ensures.updates.0)
