use Rattle.std.proofs.Common.{◌≡◌, ◌++◌}
use Rattle.never_system.specs.Blif.{numbered}
use Rattle.never_system.specs.Aiger.{symbol}
use Rattle.never_system.proofs.aiger.put_all_symbols.Given as goal

abbrev pub invariant-loop-number : goal.invariant-loop-number
invariant-loop-number l = l.text.items ≡ l.initial.text.items ++ numbered (symbol l.letter l.named) l.number
