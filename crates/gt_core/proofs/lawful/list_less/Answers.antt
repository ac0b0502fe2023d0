use Rattle.std.proofs.Common.{arith, sym, ◌∙◌}
use Rattle.gt_core.proofs.ListOrder.{second_ends, first_ends}
use Rattle.gt_core.proofs.lawful.list_less.Goals as goal

pub returns-then-i-second : goal.returns-then-i-second
returns-then-i-second c =
    sym (c.loop-i.invariant.1 ∙ second_ends c.args.first.now c.args.second.now c.loop-i.i (omega arith) (omega arith))

pub returns : goal.returns
returns c = sym (c.loop-i.invariant.1 ∙ first_ends c.args.first.now c.args.second.now c.loop-i.i (omega arith))
