use Rattle.std.proofs.Common.{◌≡◌, ◌++◌, drop}
use Rattle.never_system.specs.Aiger.{wires}
use Rattle.never_system.proofs.wires.push_wires.Given as goal

abbrev pub invariant-loop-lit : goal.invariant-loop-lit
invariant-loop-lit l = l.initial.list.items ++ wires l.width l.lits ≡ l.list.items ++ wires l.width (drop l.lit-index l.lits)
