use Rattle.std.proofs.Common.{◌≡◌}
use Rattle.layer_tests.proofs.tests.watches.long_chain.Given as goal

abbrev pub invariant-loop-i : goal.invariant-loop-i
invariant-loop-i g l = l.formula.variables ≡ 500000
