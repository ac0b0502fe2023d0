use Rattle.std.proofs.Common.{◌≡◌, ◌&&◌, ◌||◌, ◌<◌, not, true, false, ℕ, length}
use Rattle.std.specs.Prelude.{nat_lt}
use Rattle.bit_sets.specs.Rows.{row_has, room}
use Rattle.implied_literals.specs.Rows.{clause_in}
use Rattle.two_invariants.specs.own.Losses.{IsDropped}
use Rattle.two_invariants.proofs.drop.drop_lost.Given as goal

abbrev pub invariant-loop-l : goal.invariant-loop-l
invariant-loop-l l = record {
  long : length l.rows.items ≡ length l.initial.rows.items;
  room : room l.stale ≡ room l.initial.stale;
  either : (a b : ℕ) → clause_in l.rows.items a b ≡ clause_in l.rows.items b a;
  has : (a b : ℕ) → clause_in l.rows.items a b ≡ (clause_in l.initial.rows.items a b && not ((nat_lt a l.l && clause_in l.lost a b) || (nat_lt b l.l && clause_in l.lost b a)));
  dropped : IsDropped l.initial.rows.items l.rows.items (row_has l.initial.stale) (row_has l.stale);
  some : l.dropped ≡ true → (a b : ℕ) × (clause_in l.lost a b ≡ true);
  none : l.dropped ≡ false → (a b : ℕ) → a < l.l → clause_in l.lost a b ≡ false;
}
