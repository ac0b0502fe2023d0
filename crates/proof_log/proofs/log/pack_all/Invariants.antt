use Rattle.std.proofs.Common.{◌≡◌}
use Rattle.proof_log.proofs.log.pack_all.Given as goal

abbrev pub invariant-loop-number : goal.invariant-loop-number
invariant-loop-number l = l.learned.items ≡ l.initial.learned.items
