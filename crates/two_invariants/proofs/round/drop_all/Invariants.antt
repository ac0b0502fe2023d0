use Rattle.std.proofs.Common.{◌≡◌, ◌&&◌, not, true, false, ℕ, length, drop}
use Rattle.bit_sets.specs.Rows.{row_has, room}
use Rattle.implied_literals.specs.Rows.{clause_in}
use Rattle.two_invariants.specs.own.Losses.{are_lost, IsDropped}
use Rattle.two_invariants.proofs.round.drop_all.Given as goal

abbrev pub invariant-loop-table : goal.invariant-loop-table
invariant-loop-table l = record {
  long : length l.rows.items ≡ length l.initial.rows.items;
  room : room l.stale ≡ room l.initial.stale;
  either : (a b : ℕ) → clause_in l.rows.items a b ≡ clause_in l.rows.items b a;
  has : (a b : ℕ) → (clause_in l.rows.items a b && not (are_lost (drop l.table-index l.tables) a b)) ≡ (clause_in l.initial.rows.items a b && not (are_lost l.tables a b));
  fewer : IsDropped l.initial.rows.items l.rows.items (row_has l.initial.stale) (row_has l.stale);
  some : l.dropped ≡ true → (a b : ℕ) × (are_lost l.tables a b ≡ true);
  none : l.dropped ≡ false → (a b : ℕ) → are_lost l.tables a b ≡ are_lost (drop l.table-index l.tables) a b;
}
