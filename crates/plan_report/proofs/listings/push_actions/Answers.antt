use Rattle.std.proofs.Common.{◌∙◌}
use Rattle.pd_model.specs.Text.{call_text}
use Rattle.plan_report.proofs.TaskLines.{line_next}
use Rattle.plan_report.proofs.listings.push_actions.Goals as goal

pub loop-a-preserved : goal.loop-a-preserved
loop-a-preserved c =
    c.loop-a.invariant
    ∙ line_next (call_text c.args.p.now) c.args.g.now.calls c.loop-a.a c.call.result.now c.loop-a.text.items c.push_line_start.new.text.items c.push_call.new.text.items c.extend_from_slice.new.self.items
    c.call.ensures c.in_ok-push_line_start.ensures c.in_ok-push_call.ensures c.in_ok-extend_from_slice.ensures.items
