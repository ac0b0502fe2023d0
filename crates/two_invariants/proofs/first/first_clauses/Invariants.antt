use Rattle.std.proofs.Common.{◌≡◌, ◌<◌, ℕ, length}
use Rattle.gt_core.specs.Literal.{state_of}
use Rattle.implied_literals.specs.Rows.{clause_in}
use Rattle.two_invariants.specs.own.First.{is_first}
use Rattle.two_invariants.proofs.first.first_clauses.Given as goal

abbrev pub invariant-loop-l : goal.invariant-loop-l
invariant-loop-l l = record {
  long : length l.rows.items ≡ l.l;
  each : (k m : ℕ) → k < l.l → clause_in l.rows.items k m ≡ is_first (length l.state) (state_of l.state) k m;
}
