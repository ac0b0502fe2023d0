use Rattle.std.proofs.Common.{◌∙◌}
use Rattle.gt_core.specs.Literal.{is_in}
use Rattle.gt_core.specs.Published.{order_of}
use Rattle.step_plans.proofs.published.ByPlace.{members_next}
use Rattle.step_plans.proofs.linear.push_members.Goals as goal

pub loop-place-preserved : goal.loop-place-preserved
loop-place-preserved c =
    c.loop-place.invariant
    ∙ members_next (is_in c.args.set.now) (order_of c.args.order.now) c.loop-place.place c.at.result c.loop-place.actions.items c.push_member.new.actions.items c.at.ensures.at c.in_ok-push_member.ensures
