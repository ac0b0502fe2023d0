use Rattle.std.proofs.Common.{◌∙◌}
use Rattle.pd_model.proofs.published.Equality.{any_tied}
use Rattle.pd_model.proofs.state.State.has.Goals as goal

pub returns : goal.returns
returns c = rw (← c.self.view_is) (c.contains.ensures ∙ any_tied c.args.atom.now c.self.inside.atoms.keys)
