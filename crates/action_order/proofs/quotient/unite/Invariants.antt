use Rattle.std.proofs.Common.{◌≡◌, ◌≤◌, vec_len, take, length}
use Rattle.action_order.specs.own.Quotient.{AreUnited}
use Rattle.action_order.proofs.quotient.unite.Given as goal

abbrev pub invariant-loop-row : goal.invariant-loop-row
invariant-loop-row l = record {
  left : l.targets.items ≡ take (vec_len l.targets) l.initial.targets.items;
  few : vec_len l.targets ≤ length l.initial.targets.items;
  united : AreUnited l.initial.targets.items l.numbers l.count (vec_len l.targets) l.rows.items;
}

abbrev pub decreases-loop-row : goal.decreases-loop-row
decreases-loop-row l = vec_len l.targets
