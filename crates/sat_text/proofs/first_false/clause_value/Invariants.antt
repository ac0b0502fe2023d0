use Rattle.std.proofs.Common.{◌≡◌, drop}
use Rattle.clause_base.specs.Clause.{clause_value}
use Rattle.clause_base.specs.Formula.{assignment_of}
use Rattle.sat_text.proofs.first_false.clause_value.Given as goal

abbrev pub invariant-loop-place : goal.invariant-loop-place
invariant-loop-place l = clause_value (assignment_of l.values) l.clause ≡ clause_value (assignment_of l.values) (drop l.place l.clause)
