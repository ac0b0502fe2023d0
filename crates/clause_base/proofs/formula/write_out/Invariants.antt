use Rattle.std.proofs.Common.{◌≡◌, ◌++◌, take}
use Rattle.clause_base.specs.Repeats.{repeated}
use Rattle.clause_base.proofs.formula.write_out.Given as goal

abbrev pub invariant-loop-number : goal.invariant-loop-number
invariant-loop-number l = l.formula ≡ record l.initial.formula { clauses = l.initial.formula.clauses ++ take l.number (repeated l.part) }
