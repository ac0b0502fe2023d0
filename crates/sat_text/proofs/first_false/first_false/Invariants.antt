use Rattle.std.proofs.Common.{◌≡◌, ◌<◌, ℕ, List, slice_get, Some, true}
use Rattle.clause_base.specs.Clause.{clause_value}
use Rattle.clause_base.specs.Formula.{assignment_of}
use Rattle.sat_text.proofs.first_false.first_false.Given as goal

abbrev pub invariant-loop-number : goal.invariant-loop-number
invariant-loop-number l = (k : ℕ) (c : List ℕ) → k < l.number → slice_get l.formula.clauses k ≡ Some c → clause_value (assignment_of l.values) c ≡ true
