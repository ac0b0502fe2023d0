use Rattle.std.proofs.Common.{◌≡◌}
use Rattle.test_kit.proofs.rooms.add_lamp_pairs.Given as goal

abbrev pub invariant-loop-lamp : goal.invariant-loop-lamp
invariant-loop-lamp l = l.pairs.facts ≡ l.initial.pairs.facts
