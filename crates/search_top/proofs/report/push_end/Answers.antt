use Rattle.std.proofs.Common.{length}
use Rattle.plan_report.specs.Report.{action_text}
use Rattle.search_top.specs.Report.{plan_line}
use Rattle.search_top.proofs.Lines.{lines_pushed}
use Rattle.search_top.proofs.report.push_end.Goals as goal

pub returns-in_ok-push_plan-in-Plan-clause-lines : goal.returns-in_ok-push_plan-in-Plan-clause-lines
returns-in_ok-push_plan-in-Plan-clause-lines c =
    rw c.in-Plan.is (lines_pushed c.push_actions.result (plan_line c.args.how (length c.in-Plan.actions)) (action_text c.args.p.now c.args.g.now) c.in-Plan.actions c.args.text.now.items c.push_plan.new.text.items c.push_actions.new.text.items
    (rw c.as_slice.ensures at c.in_ok-push_plan-in-Plan.ensures) (rw c.as_slice-in-Plan.ensures at c.push_actions.ensures))

pub returns-in_ok-extend_from_slice-in-NoPlan-clause-lines : goal.returns-in_ok-extend_from_slice-in-NoPlan-clause-lines
returns-in_ok-extend_from_slice-in-NoPlan-clause-lines c = rw c.in-NoPlan.is c.in_ok-extend_from_slice-in-NoPlan.ensures.items
