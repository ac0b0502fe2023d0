use Rattle.std.proofs.Common.{◌≡◌, drop}
use Rattle.lrat_judge.specs.Judged.{has_empty}
use Rattle.lrat_judge.proofs.judge.has_empty.Given as goal

abbrev pub invariant-loop-number : goal.invariant-loop-number
invariant-loop-number l = has_empty l.formula.clauses ≡ has_empty (drop l.number l.formula.clauses)
