use Rattle.std.proofs.Common.{arith, refl}
use Rattle.action_order.specs.declared.walk.Mark.TheVariants.{Done}
use Rattle.action_order.proofs.WalkLaw.{marks_more}
use Rattle.action_order.proofs.walk.finish.Goals as goal

pub loop-i-init : goal.loop-i-init
loop-i-init c = record { long = refl; marked = λ p le l. absurd (omega arith); others = λ v n. refl }

pub loop-i-preserved : goal.loop-i-preserved
loop-i-preserved c = marks_more c.args.marks.now.items c.loop-i.marks.items c.args.stack.now c.args.place c.loop-i.i (Done c.args.number) (omega arith) (c.requires.within c.loop-i.i (omega arith)) c.loop-i.invariant
