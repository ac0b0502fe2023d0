use Rattle.std.proofs.Common.{◌≡◌, ◌++◌, drop}
use Rattle.sat_text.specs.Dimacs.{clause_line}
use Rattle.never_text.proofs.write.put_clause.Given as goal

abbrev pub invariant-loop-lit : goal.invariant-loop-lit
invariant-loop-lit l = l.initial.text.items ++ clause_line l.clause ≡ l.text.items ++ clause_line (drop l.lit-index l.clause)
