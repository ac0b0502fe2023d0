use Rattle.std.proofs.Common.{◌≡◌, ◌<◌, ℕ, false, take, drop}
use Rattle.clause_base.specs.Derivation.{IsDerivedAt}
use Rattle.rup_check.specs.own.Ends.{ends_by}
use Rattle.rup_check.specs.Taken.{HasTaken}
use Rattle.rup_check.proofs.check.go_through.Given as goal

abbrev pub invariant-loop-number : goal.invariant-loop-number
invariant-loop-number l = record {
  derived : (k : ℕ) → k < l.number → IsDerivedAt l.formula.variables l.formula.clauses l.log k;
  formula : l.checker.formula ≡ l.formula;
  taken : HasTaken l.checker (take l.number l.log);
  left : l.reader ≡ drop l.number l.log;
  ends : l.ends_empty ≡ ends_by false (take l.number l.log);
}
