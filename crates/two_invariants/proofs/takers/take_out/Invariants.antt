use Rattle.std.proofs.Common.{◌≡◌, ◌&&◌, ◌-◌, not, ℕ}
use Rattle.std.specs.Prelude.{nat_lt}
use Rattle.bit_sets.specs.Rows.{row_has}
use Rattle.implied_literals.specs.Breaks.{is_add}
use Rattle.two_invariants.proofs.takers.take_out.Given as goal

abbrev pub invariant-loop-l : goal.invariant-loop-l
invariant-loop-l l =
    (m : ℕ) → row_has l.sure m ≡ (row_has l.initial.sure m && not (nat_lt m l.from && (row_has l.lits m && not (is_add m && row_has l.given m))))

abbrev pub decreases-loop-l : goal.decreases-loop-l
decreases-loop-l l = 4096 - l.from
