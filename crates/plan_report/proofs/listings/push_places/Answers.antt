use Rattle.std.proofs.Common.{◌∙◌}
use Rattle.gt_core.specs.Published.{order_of}
use Rattle.plan_report.specs.Listings.{placed}
use Rattle.plan_report.proofs.TaskLines.{line_next, lines_done}
use Rattle.plan_report.proofs.listings.push_places.Goals as goal

pub loop-place-preserved : goal.loop-place-preserved
loop-place-preserved c =
    c.loop-place.invariant
    ∙ line_next (placed c.args.p.now c.args.g.now c.args.order.now) (order_of c.args.order.now) c.loop-place.place c.at.result c.loop-place.text.items c.push_line_start.new.text.items c.push_placed.new.text.items c.extend_from_slice.new.self.items
    c.at.ensures.at c.in_ok-push_line_start.ensures c.in_ok-push_placed.ensures c.in_ok-extend_from_slice.ensures.items

pub returns : goal.returns
returns c =
    lines_done (placed c.args.p.now c.args.g.now c.args.order.now) (order_of c.args.order.now) c.loop-place.place _ c.args.text.now.items c.loop-place.text.items c.actions-place-end.ensures c.loop-place-test.false c.loop-place.invariant
