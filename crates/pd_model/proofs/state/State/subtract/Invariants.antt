use Rattle.std.proofs.Common.{length}
use Rattle.std.specs.Prelude.{not}
use Rattle.std.specs.List.{filter}
use Rattle.pd_model.specs.State.{SameState, is_in}
use Rattle.pd_model.proofs.state.State.subtract.Given as goal

abbrev pub invariant-loop-atom : goal.invariant-loop-atom
invariant-loop-atom l = SameState (filter (λ a. not (is_in a l.other-inside.atoms.keys)) l.self) (filter (λ a. not (is_in a l.fn.other)) l.fn.self)

abbrev pub decreases-loop-atom : goal.decreases-loop-atom
decreases-loop-atom l = length l.other-inside.atoms.keys
