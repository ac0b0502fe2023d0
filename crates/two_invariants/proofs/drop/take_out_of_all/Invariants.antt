use Rattle.std.proofs.Common.{◌≡◌, ◌==◌, ◌&&◌, ◌-◌, not, ℕ, length}
use Rattle.std.specs.Prelude.{nat_lt}
use Rattle.bit_sets.specs.Rows.{row_has, room}
use Rattle.implied_literals.specs.Rows.{clause_in}
use Rattle.two_invariants.specs.own.Losses.{IsDropped}
use Rattle.two_invariants.proofs.drop.take_out_of_all.Given as goal

abbrev pub invariant-loop-m : goal.invariant-loop-m
invariant-loop-m l = record {
  long : length l.rows.items ≡ length l.initial.rows.items;
  room : room l.stale ≡ room l.initial.stale;
  has : (a b : ℕ) → clause_in l.rows.items a b ≡ (clause_in l.initial.rows.items a b && not (nat_lt a l.from && (row_has l.others a && (l.lit == b))));
  dropped : IsDropped l.initial.rows.items l.rows.items (row_has l.initial.stale) (row_has l.stale);
}

abbrev pub decreases-loop-m : goal.decreases-loop-m
decreases-loop-m l = length l.rows.items - l.from
