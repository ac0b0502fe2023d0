use Rattle.pd_plan.proofs.Kept.{calls_more}
use Rattle.pd_plan.proofs.calls.read_calls.Goals as goal
use Rattle.std.proofs.Common.{◌∙◌}

pub loop-list-preserved : goal.loop-list-preserved
loop-list-preserved c =
    let one = calls_more c.args.p.now c.args.lists.now c.loop-list.list-index _ c.loop-list.calls.items c.in_ok-read_call.field-0 c.loop-list-test.true (rw c.list-item.is at c.in_ok-read_call.ensures) in
    rw c.in_ok-push.ensures.items (one ∙ c.loop-list.invariant)
