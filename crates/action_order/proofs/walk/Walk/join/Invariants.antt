use Rattle.std.proofs.Common.{vec_len, ◌≡◌}
use Rattle.action_order.specs.own.Walk.{IsWalkOf}
use Rattle.action_order.proofs.walk.Walk.join.Given as goal

abbrev pub invariant-loop-self : goal.invariant-loop-self
invariant-loop-self l = record {
  walk : IsWalkOf l.targets l.self;
  marks : l.self.marks.items ≡ l.initial.self.marks.items;
  stack : l.self.stack.items ≡ l.initial.self.stack.items;
  work : l.self.work.items ≡ l.initial.self.work.items;
}

abbrev pub decreases-loop-self : goal.decreases-loop-self
decreases-loop-self l = vec_len l.self.starts
