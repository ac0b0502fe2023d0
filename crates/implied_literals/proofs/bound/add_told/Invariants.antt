use Rattle.std.proofs.Common.{◌≡◌, ◌<◌, ◌-◌, ℕ, Bool, true, length}
use Rattle.bit_sets.specs.Rows.{row_has}
use Rattle.gt_core.specs.Literal.{opposite}
use Rattle.implied_literals.specs.Rows.{clause_in, IsChained, IsPart}
use Rattle.implied_literals.proofs.bound.add_told.Given as goal

abbrev pub invariant-loop-x : goal.invariant-loop-x
invariant-loop-x l = record {
  all : (x y : ℕ) → x < l.from → row_has l.set x ≡ true → clause_in l.clauses (opposite x) y ≡ true → row_has l.told y ≡ true;
  only : (other : ℕ → Bool) → IsChained (clause_in l.clauses) other → IsPart (row_has l.set) other → IsPart (row_has l.initial.told) other → IsPart (row_has l.told) other;
}

abbrev pub decreases-loop-x : goal.decreases-loop-x
decreases-loop-x l = length l.clauses - l.from
