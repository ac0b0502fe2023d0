use Rattle.std.proofs.Common.{◌≡◌, ◌+◌, [], length}
use Rattle.layer_runs.proofs.watched.added.Given as goal

abbrev pub invariant-loop-v : goal.invariant-loop-v
invariant-loop-v l = record {
  many : l.watches.variables ≡ 100002;
  none : l.watches.trail ≡ [];
  count : length l.watches.kept ≡ l.first + l.v;
}
