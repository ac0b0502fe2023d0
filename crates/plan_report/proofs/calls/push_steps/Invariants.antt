use Rattle.std.proofs.Common.{◌≡◌, ◌+◌, ◌++◌, drop}
use Rattle.report_lines.specs.Lines.{joined}
use Rattle.plan_report.specs.Report.{step_lines, calls_by_step}
use Rattle.plan_report.proofs.calls.push_steps.Given as goal

abbrev pub invariant-loop-t : goal.invariant-loop-t
invariant-loop-t l =
    l.initial.text.items ++ joined (step_lines 1 (calls_by_step l.p l.g l.steps))
    ≡ l.text.items ++ joined (step_lines (l.t + 1) (calls_by_step l.p l.g (drop l.t l.steps)))
