use Rattle.std.proofs.Common.{◌≡◌}
use Rattle.test_kit.proofs.large.add_pairs_of.Given as goal

abbrev pub invariant-loop-second : goal.invariant-loop-second
invariant-loop-second l = l.pairs.facts ≡ l.initial.pairs.facts
