use Rattle.std.proofs.Common.{◌≡◌}
use Rattle.layer_runs.proofs.watched.triples.Given as goal

abbrev pub invariant-loop-v : goal.invariant-loop-v
invariant-loop-v l = l.formula.variables ≡ 100002
