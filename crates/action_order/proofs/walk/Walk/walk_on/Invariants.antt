use Rattle.action_order.specs.own.Walk.{IsWalkOf, KeepsSeen, work_left}
use Rattle.action_order.proofs.walk.Walk.walk_on.Given as goal

abbrev pub invariant-loop-self : goal.invariant-loop-self
invariant-loop-self l = record {
  walk : IsWalkOf l.targets l.self;
  keeps : KeepsSeen l.fn.self.marks.items l.self.marks.items;
}

abbrev pub decreases-loop-self : goal.decreases-loop-self
decreases-loop-self l = work_left l.self.marks.items l.self.work.items
