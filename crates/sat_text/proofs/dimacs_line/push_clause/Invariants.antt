use Rattle.std.proofs.Common.{◌≡◌, ◌++◌, drop}
use Rattle.sat_text.specs.Dimacs.{clause_line}
use Rattle.sat_text.proofs.dimacs_line.push_clause.Given as goal

abbrev pub invariant-loop-place : goal.invariant-loop-place
invariant-loop-place l = l.initial.text.items ++ clause_line l.clause ≡ l.text.items ++ clause_line (drop l.place l.clause)
