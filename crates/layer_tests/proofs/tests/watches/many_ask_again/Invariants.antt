use Rattle.std.proofs.Common.{◌≡◌}
use Rattle.layer_tests.proofs.tests.watches.many_ask_again.Given as goal

abbrev pub invariant-loop-length : goal.invariant-loop-length
invariant-loop-length g l = l.watches.variables ≡ 6
