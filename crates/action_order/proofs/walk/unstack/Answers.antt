use Rattle.std.proofs.Common.{arith, refl}
use Rattle.action_order.proofs.WalkLaw.{takes_more}
use Rattle.action_order.proofs.walk.unstack.Goals as goal

pub loop-i-init : goal.loop-i-init
loop-i-init c = record { taken = λ p le l. absurd (omega arith); others = λ v n. refl }

pub loop-i-preserved : goal.loop-i-preserved
loop-i-preserved c = takes_more c.args.stack.now c.args.place c.loop-i.i c.args.stacked.now c.loop-i.stacked c.remove.new.self (omega arith) c.loop-i.invariant c.remove.ensures.has
