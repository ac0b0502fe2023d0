use Rattle.clause_base.specs.Clause.{has_literal}
use Rattle.propagation.proofs.Scans.{IsRead}
use Rattle.propagation.proofs.scan.status_of.Given as goal

abbrev pub invariant-loop-place : goal.invariant-loop-place
invariant-loop-place l = IsRead (has_literal l.assignment.trail) l.clause l.place l.left
