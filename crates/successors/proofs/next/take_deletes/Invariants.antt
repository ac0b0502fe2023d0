use Rattle.std.proofs.Common.{◌≡◌, ℕ, ◌+◌, ◌*◌, not, ◌&&◌, drop, length}
use Rattle.std.specs.List.{list_any}
use Rattle.bit_sets.specs.Rows.{row_has}
use Rattle.gt_core.specs.Active.{is_active}
use Rattle.successors.proofs.next.take_deletes.Given as goal

-- what the deletes that are left make of the row is what all make of the first one
abbrev pub invariant-loop-effect : goal.invariant-loop-effect
invariant-loop-effect l = record {
  has : (f : ℕ) → (row_has l.initial.into.items f && not (list_any (is_active (row_has l.row) (2 * f + 1)) l.effects))
      ≡ (row_has l.into.items f && not (list_any (is_active (row_has l.row) (2 * f + 1)) (drop l.effect-index l.effects)));
  long : length l.into.items ≡ length l.initial.into.items;
}
