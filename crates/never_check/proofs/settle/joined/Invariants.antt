use Rattle.std.proofs.Common.{◌≡◌, ◌++◌, drop}
use Rattle.never_check.proofs.settle.joined.Given as goal

abbrev pub invariant-loop-number : goal.invariant-loop-number
invariant-loop-number l = l.clauses ++ drop l.number l.second ≡ l.first ++ l.second
