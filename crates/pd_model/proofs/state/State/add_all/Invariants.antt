use Rattle.std.proofs.Common.{◌++◌, take}
use Rattle.pd_model.specs.State.{SameState}
use Rattle.pd_model.proofs.state.State.add_all.Given as goal

abbrev pub invariant-loop-atom : goal.invariant-loop-atom
invariant-loop-atom l = SameState l.self (take l.atom-index l.atoms ++ l.fn.self)
