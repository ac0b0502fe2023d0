use Rattle.std.proofs.Common.{◌≡◌}
use Rattle.test_kit.proofs.kept.add_kept.Given as goal

abbrev pub invariant-loop-m : goal.invariant-loop-m
invariant-loop-m l = l.pairs.facts ≡ l.initial.pairs.facts
