use Rattle.step_encoding.proofs.Whole.{group_added}
use Rattle.step_encoding.proofs.truth.true_actions.Goals as goal

pub loop-group-preserved : goal.loop-group-preserved
loop-group-preserved c =
    group_added _ c.args.order.now c.loop-group.actions.items c.add_true.new.into.items c.loop-group.group-index c.group-item.result c.group-item.result c.as_slice.result.now c.groups-group-items.result.now c.groups-group-items.ensures.groups c.loop-group-test.true c.group-item.is c.as_slice.ensures c.in_ok-add_true.ensures c.loop-group.invariant
