use Rattle.std.proofs.Common.{◌≡◌, ◌++◌}
use Rattle.never_system.specs.Blif.{numbered, bit}
use Rattle.never_system.proofs.acts.put_bits.Given as goal

abbrev pub invariant-loop-place : goal.invariant-loop-place
invariant-loop-place l = l.text.items ≡ l.initial.text.items ++ numbered (bit l.number) l.place
