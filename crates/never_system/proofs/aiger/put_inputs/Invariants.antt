use Rattle.std.proofs.Common.{◌≡◌, ◌++◌}
use Rattle.never_system.specs.Blif.{numbered}
use Rattle.never_system.specs.Aiger.{input_line}
use Rattle.never_system.proofs.aiger.put_inputs.Given as goal

abbrev pub invariant-loop-bit : goal.invariant-loop-bit
invariant-loop-bit l = l.text.items ≡ l.initial.text.items ++ numbered input_line l.bit
