use Rattle.std.proofs.Common.{◌≡◌, ◌++◌, drop}
use Rattle.sat_text.specs.Dimacs.{clause_lines}
use Rattle.never_text.proofs.write.put_clauses.Given as goal

abbrev pub invariant-loop-number : goal.invariant-loop-number
invariant-loop-number l = l.initial.text.items ++ clause_lines l.clauses ≡ l.text.items ++ clause_lines (drop l.number l.clauses)
