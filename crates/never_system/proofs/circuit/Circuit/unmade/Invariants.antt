use Rattle.std.proofs.Common.{◌≡◌, ◌++◌, drop}
use Rattle.never_system.specs.Aiger.{unmade}
use Rattle.never_system.proofs.circuit.Circuit.unmade.Given as goal

abbrev pub invariant-loop-maker : goal.invariant-loop-maker
invariant-loop-maker l = unmade l.lit l.self.makers ≡ l.list.items ++ unmade l.lit (drop l.maker-index l.self.makers)
