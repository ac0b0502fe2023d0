use Rattle.std.proofs.Common.{sym}
use Rattle.action_order.proofs.published.Lists.{range_more}
use Rattle.action_order.proofs.sort.numbers_below.Goals as goal

pub loop-i-preserved : goal.loop-i-preserved
loop-i-preserved c = rw (c.in_ok-push.ensures.items, c.loop-i.invariant) (sym (range_more c.loop-i.i))
