use Rattle.std.proofs.Common.{◌≡◌}
use Rattle.test_kit.proofs.large.add_place_pairs.Given as goal

abbrev pub invariant-loop-first : goal.invariant-loop-first
invariant-loop-first l = l.pairs.facts ≡ l.initial.pairs.facts
