use Rattle.std.proofs.Common.{◌≡◌, ℕ, ◌*◌, ◌||◌, drop, length}
use Rattle.std.specs.List.{list_any}
use Rattle.bit_sets.specs.Rows.{row_has}
use Rattle.gt_core.specs.Active.{is_active}
use Rattle.successors.proofs.next.take_adds.Given as goal

-- what the adds that are left make of the row is what all make of the first one
abbrev pub invariant-loop-effect : goal.invariant-loop-effect
invariant-loop-effect l = record {
  has : (f : ℕ) → (list_any (is_active (row_has l.row) (2 * f)) l.effects || row_has l.initial.into.items f)
      ≡ (list_any (is_active (row_has l.row) (2 * f)) (drop l.effect-index l.effects) || row_has l.into.items f);
  long : length l.into.items ≡ length l.initial.into.items;
}
