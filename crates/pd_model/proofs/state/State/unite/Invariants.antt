use Rattle.std.proofs.Common.{◌++◌, length}
use Rattle.pd_model.specs.State.{SameState}
use Rattle.pd_model.proofs.state.State.unite.Given as goal

abbrev pub invariant-loop-atom : goal.invariant-loop-atom
invariant-loop-atom l = SameState (l.other-inside.atoms.keys ++ l.self) (l.fn.other ++ l.fn.self)

abbrev pub decreases-loop-atom : goal.decreases-loop-atom
decreases-loop-atom l = length l.other-inside.atoms.keys
