use Rattle.std.proofs.Common.{◌≡◌, ◌++◌, drop}
use Rattle.never_system.specs.Blif.{maker_zeros}
use Rattle.never_system.proofs.facts.put_zeros.Given as goal

abbrev pub invariant-loop-effect : goal.invariant-loop-effect
invariant-loop-effect l = l.initial.text.items ++ maker_zeros l.lit l.effects ≡ l.text.items ++ maker_zeros l.lit (drop l.effect-index l.effects)
