use Rattle.std.proofs.Common.{below_more}
use Rattle.successors.proofs.check.are_there.Goals as goal

pub loop-act-preserved : goal.loop-act-preserved
loop-act-preserved c = below_more _ _ c.loop-act.invariant (c.is_there.ensures c.if-not-is_there.false)
