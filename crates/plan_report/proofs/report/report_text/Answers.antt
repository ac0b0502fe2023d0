use Rattle.std.proofs.Common.{◌∙◌}
use Rattle.plan_report.proofs.Pushed.{report_made}
use Rattle.plan_report.proofs.report.report_text.Goals as goal

pub returns-clause-text : goal.returns-clause-text
returns-clause-text c =
    c.of.ensures
    ∙ report_made c.args.pddl.now c.args.grounded.now c.args.budget c.conflicts_of.result c.args.end.now c.lines-lines.result.now c.new-text.result.items c.push_horizons.new.text.items
    c.push_conflicts.new.text.items c.push_end.new.text.items c.push_plan_lines.new.text.items
    c.lines-lines.ensures c.conflicts_of.ensures c.new-text.ensures.items c.in_ok-push_horizons.ensures.lines c.in_ok-push_conflicts.ensures c.in_ok-push_end.ensures.line c.in_ok-push_plan_lines.ensures
