use Rattle.action_order.specs.own.Walk.{MarksFrom}
use Rattle.action_order.specs.declared.walk.Mark.TheVariants.{Done}
use Rattle.action_order.proofs.walk.finish.Given as goal

abbrev pub invariant-loop-i : goal.invariant-loop-i
invariant-loop-i l = MarksFrom l.initial.marks.items l.marks.items l.stack l.place l.i (Done l.number)
