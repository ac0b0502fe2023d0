use Rattle.std.proofs.Common.{◌≡◌, drop}
use Rattle.never_system.specs.Aiger.{with_effects}
use Rattle.never_system.proofs.circuit_acts.add_effects.Given as goal

abbrev pub invariant-loop-effect : goal.invariant-loop-effect
invariant-loop-effect l = with_effects l.width l.run l.initial.circuit l.effects ≡ with_effects l.width l.run l.circuit (drop l.effect-index l.effects)
