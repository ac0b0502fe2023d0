use Rattle.std.proofs.Common.{◌≡◌, []}
use Rattle.layer_runs.proofs.watched.undone.Given as goal

abbrev pub invariant-loop-v : goal.invariant-loop-v
invariant-loop-v l = record {
  same : l.watches ≡ l.initial.watches;
  many : l.watches.variables ≡ 100002;
  none : l.watches.trail ≡ [];
}
