use Rattle.pd_model.proofs.published.States.{removed}
use Rattle.pd_model.proofs.state.State.remove.Goals as goal

pub returns : goal.returns
returns c = rw (← c.self.view_is) (removed c.self.inside.atoms.keys c.remove.new.self.keys c.args.atom.now c.remove.ensures.updates.0)
