use Rattle.std.proofs.Common.{◌≡◌}
use Rattle.gt_core.specs.Literal.{range}
use Rattle.action_order.proofs.sort.numbers_below.Given as goal

abbrev pub invariant-loop-i : goal.invariant-loop-i
invariant-loop-i l = l.numbers.items ≡ range l.i
