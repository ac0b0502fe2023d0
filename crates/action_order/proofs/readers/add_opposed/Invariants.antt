use Rattle.std.proofs.Common.{◌≡◌, ◌<◌, ◌-◌, ℕ, true, length}
use Rattle.bit_sets.specs.Rows.{row_has}
use Rattle.gt_core.specs.Literal.{opposite}
use Rattle.action_order.specs.own.Graph.{row_at}
use Rattle.action_order.specs.own.Readers.{IsPartOf, IsOpposed}
use Rattle.action_order.proofs.readers.add_opposed.Given as goal

abbrev pub invariant-loop-m : goal.invariant-loop-m
invariant-loop-m l = record {
  old : IsPartOf l.initial.row l.row;
  all : (m : ℕ) → m < l.from → m < length l.needing → row_has l.lits m ≡ true → IsPartOf (row_at l.needing (opposite m)) l.row;
  only : IsOpposed l.needing (row_has l.lits) l.initial.row l.row;
}

abbrev pub decreases-loop-m : goal.decreases-loop-m
decreases-loop-m l = length l.needing - l.from
