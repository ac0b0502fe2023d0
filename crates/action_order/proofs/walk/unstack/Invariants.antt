use Rattle.action_order.specs.own.Walk.{TakesFrom}
use Rattle.action_order.proofs.walk.unstack.Given as goal

abbrev pub invariant-loop-i : goal.invariant-loop-i
invariant-loop-i l = TakesFrom l.stack l.place l.i l.initial.stacked l.stacked
