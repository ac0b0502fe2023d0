use Rattle.std.proofs.Common.{◌≡◌}
use Rattle.cdcl_core.proofs.reduce.pack_all.Given as goal

-- nothing has changed that is seen
abbrev pub invariant-loop-number : goal.invariant-loop-number
invariant-loop-number l = l.propagator ≡ l.initial.propagator
