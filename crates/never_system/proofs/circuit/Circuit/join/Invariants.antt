use Rattle.std.proofs.Common.{◌≡◌, drop}
use Rattle.never_system.specs.Aiger.{join, joined}
use Rattle.never_system.proofs.circuit.Circuit.join.Given as goal

abbrev pub invariant-loop-wire : goal.invariant-loop-wire
invariant-loop-wire l = (join l.initial.self l.first l.wires ≡ join l.self l.all (drop l.wire-index l.wires)) × (joined l.initial.self l.first l.wires ≡ joined l.self l.all (drop l.wire-index l.wires))
