use Rattle.std.proofs.Common.{◌≡◌, ◌-◌, ◌<◌, ◌≤◌, ℕ, true, length}
use Rattle.bit_sets.specs.Rows.{row_has}
use Rattle.action_order.specs.own.Graph.{class_at}
use Rattle.action_order.specs.own.Sorting.{is_taken}
use Rattle.action_order.proofs.sort.pending.Given as goal

abbrev pub invariant-loop-b : goal.invariant-loop-b
invariant-loop-b l = (b : ℕ) → l.start ≤ b → b < l.from → row_has l.row b ≡ true → is_taken l.taken (class_at l.numbers b) ≡ true

abbrev pub decreases-loop-b : goal.decreases-loop-b
decreases-loop-b l = length l.numbers - l.from
