use Rattle.std.proofs.Common.{◌-◌, length}
use Rattle.action_order.specs.own.Walk.{IsLowestBelow}
use Rattle.action_order.proofs.walk.Walk.lowest.Given as goal

abbrev pub invariant-look : goal.invariant-look
invariant-look l = IsLowestBelow l.targets l.self.marks.items l.v l.from l.lowest

abbrev pub decreases-look : goal.decreases-look
decreases-look l = length l.targets - l.from
