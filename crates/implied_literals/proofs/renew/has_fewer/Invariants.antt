use Rattle.std.proofs.Common.{◌≤◌, ◌-◌}
use Rattle.implied_literals.proofs.renew.has_fewer.Given as goal

abbrev pub invariant-loop-x : goal.invariant-loop-x
invariant-loop-x l = record {
  from : l.from ≤ 4096;
  low : l.low ≤ 4096;
}

abbrev pub decreases-loop-x : goal.decreases-loop-x
decreases-loop-x l = 4096 - l.from
