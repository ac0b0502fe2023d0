use Rattle.std.proofs.Common.{◌≡◌, ◌++◌}
use Rattle.never_system.specs.Blif.{numbered, latch}
use Rattle.never_system.proofs.facts.put_latches.Given as goal

abbrev pub invariant-loop-fact : goal.invariant-loop-fact
invariant-loop-fact l = l.text.items ≡ l.initial.text.items ++ numbered (latch l.task) l.fact
