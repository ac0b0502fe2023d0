use Rattle.std.proofs.Common.{◌≡◌, [], length}
use Rattle.layer_tests.proofs.tests.watches.units.Given as goal

abbrev pub invariant-loop-v : goal.invariant-loop-v
invariant-loop-v g l = record { variables : l.watches.variables ≡ 6; count : length l.watches.kept ≡ l.v; none : l.watches.trail ≡ [] }
