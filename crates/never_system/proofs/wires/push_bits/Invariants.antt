use Rattle.std.proofs.Common.{◌≡◌, ◌++◌}
use Rattle.never_system.specs.Blif.{numbered}
use Rattle.never_system.specs.Aiger.{bit_wire}
use Rattle.never_system.proofs.wires.push_bits.Given as goal

abbrev pub invariant-loop-place : goal.invariant-loop-place
invariant-loop-place l = l.list.items ≡ l.initial.list.items ++ numbered (bit_wire l.number) l.place
