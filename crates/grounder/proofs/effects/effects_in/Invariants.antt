use Rattle.std.proofs.Common.{◌≡◌}
use Rattle.grounder.specs.own.Putting.{effects_at}
use Rattle.grounder.proofs.effects.effects_in.Given as goal

abbrev pub invariant-loop-key : goal.invariant-loop-key
invariant-loop-key l = l.effects.items ≡ effects_at l.yielded
