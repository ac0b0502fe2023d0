use Rattle.std.proofs.Common.{take}
use Rattle.action_order.specs.own.Sure.{AreMade}
use Rattle.action_order.proofs.sure.collect_literals.Given as goal

abbrev pub invariant-loop-effect : goal.invariant-loop-effect
invariant-loop-effect l = AreMade l.made (take l.effect-index l.effects)
