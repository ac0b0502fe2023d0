use Rattle.std.proofs.Common.{◌≡◌, ◌&&◌, ◌||◌, ◌-◌, ◌*◌, not, ℕ, length}
use Rattle.std.specs.Prelude.{nat_lt}
use Rattle.bit_sets.specs.Rows.{row_has}
use Rattle.implied_literals.specs.Breaks.{is_add}
use Rattle.implied_literals.specs.Rows.{clause_in}
use Rattle.two_invariants.proofs.broken.add_losses.Given as goal

abbrev pub invariant-loop-l : goal.invariant-loop-l
invariant-loop-l l = record {
  long : length l.lost.items ≡ length l.initial.lost.items;
  lost : (a m : ℕ) → clause_in l.lost.items a m
      ≡ (clause_in l.initial.lost.items a m || (nat_lt a l.from && (clause_in l.clauses a m && (row_has l.lits a && (not (is_add a && row_has l.given a) && not (row_has l.sure m))))));
}

abbrev pub decreases-loop-l : goal.decreases-loop-l
decreases-loop-l l = 2 * l.facts - l.from
