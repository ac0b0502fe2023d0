use Rattle.std.proofs.Common.{◌≡◌, length}
use Rattle.propagation.specs.own.Steps.{ArePlaced}
use Rattle.propagation.proofs.steps.steps_of.Given as goal

abbrev pub invariant-loop-slot : goal.invariant-loop-slot
invariant-loop-slot l = (length l.of_slots.items ≡ l.slot) × ArePlaced l.before l.steps l.size l.of_slots.items l.slots
