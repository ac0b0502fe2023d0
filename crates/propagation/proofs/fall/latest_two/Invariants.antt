use Rattle.std.proofs.Common.{◌≤◌, length}
use Rattle.propagation.specs.own.Latest.{AreLatest}
use Rattle.propagation.proofs.fall.latest_two.Given as goal

abbrev pub invariant-loop-place : goal.invariant-loop-place
invariant-loop-place l = record {
  within : l.place ≤ length l.clause;
  latest : AreLatest l.assignment.trail l.clause l.assignment.variables l.place l.two;
}
