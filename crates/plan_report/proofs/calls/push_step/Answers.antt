use Rattle.plan_report.specs.Report.{step_line, action_text}
use Rattle.plan_report.proofs.Pushed.{step_pushed}
use Rattle.plan_report.proofs.calls.push_step.Goals as goal

pub returns : goal.returns
returns c =
    step_pushed (step_line c.args.number) (action_text c.args.p.now c.args.g.now) c.args.set.now c.args.text.now.items c.push_number_of_step.new.text.items c.push_actions.new.text.items
    c.in_ok-push_number_of_step.ensures c.in_ok-push_actions.ensures
