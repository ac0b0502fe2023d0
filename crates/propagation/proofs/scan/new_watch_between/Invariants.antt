use Rattle.propagation.specs.Pending.{AreFalseFrom}
use Rattle.propagation.proofs.scan.new_watch_between.Given as goal

abbrev pub invariant-loop-place : goal.invariant-loop-place
invariant-loop-place l = AreFalseFrom l.assignment.trail l.clause l.skipped l.low l.place
