use Rattle.std.proofs.Common.{◌≡◌}
use Rattle.test_kit.proofs.kept.kept_pairs.Given as goal

abbrev pub invariant-loop-l : goal.invariant-loop-l
invariant-loop-l l = l.pairs.facts ≡ l.initial.pairs.facts
