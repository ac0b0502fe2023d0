use Rattle.std.proofs.Common.{◌+◌, ◌*◌, ◌∙◌, drop, length}
use Rattle.gt_core.specs.Published.{order_of}
use Rattle.step_chains.proofs.published.ExtendLaw.{group_more, room_of_component, room_of_order, group_at}
use Rattle.step_chains.proofs.chains.Chains.find.Goals as goal

pub loop-members-preserved : goal.loop-members-preserved
loop-members-preserved c =
    let task = c.args.task.now in
    let order = c.args.order.now in
    let i = c.loop-members.members-index in
    let e = c.in_ok-add_component.ensures.added in
    let at = group_at order c.groups-members-items.result.now i c.members-item.result c.members-item.result c.as_slice.result.now c.groups-members-items.ensures.groups c.loop-members-test.true c.members-item.is c.as_slice.ensures in (
      e.actions ∙ c.loop-members.invariant.0,
      c.in_ok-add_component.ensures.index,
      room_of_component task c.as_slice.result.now (4096 * length (order_of (drop (i + 1) order))) c.loop-members.chains c.add_component.new.self c.facts.ensures.lawful e (room_of_order order i c.as_slice.result.now c.loop-members.chains at c.loop-members.invariant.2),
      λ new rest. c.loop-members.invariant.3 new
          (group_more task order c.groups-members-items.result.now i c.members-item.result c.members-item.result c.as_slice.result.now c.loop-members.chains c.add_component.new.self
          c.groups-members-items.ensures.groups c.loop-members-test.true c.members-item.is c.as_slice.ensures e new rest),
    )
