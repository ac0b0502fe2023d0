use Rattle.std.proofs.Common.{◌≡◌, ◌++◌, drop}
use Rattle.never_system.specs.Blif.{pattern}
use Rattle.never_system.proofs.names.put_pattern.Given as goal

abbrev pub invariant-loop-lit : goal.invariant-loop-lit
invariant-loop-lit l = l.initial.text.items ++ pattern l.lits ≡ l.text.items ++ pattern (drop l.lit-index l.lits)
