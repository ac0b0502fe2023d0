use Rattle.std.proofs.Common.{refl, ap, subst, Err}
use Rattle.gt_core.specs.Task.{Task}
use Rattle.commands.specs.Known.{HasTooMany}
use Rattle.commands.specs.Proved.{Proves}
use Rattle.commands.specs.Tasks.{grounded}
use Rattle.commands.specs.Answers.{AnswersProve, not_run, run}
use Rattle.commands.proofs.Answered.{stop_handed}
use Rattle.commands.proofs.certify.answer_prove.Goals as goal

pub returns-in_err-ready : goal.returns-in_err-ready
returns-in_err-ready g c =
    stop_handed c.args.domain.now c.args.problem.now (AnswersProve c.args.horizon c.args.budget) c.in_err-ready.field-0.0 c.from_residual.result c.from_residual.ensures.1 c.in_err-ready.ensures.stops

pub returns-in-Ok : goal.returns-in-Ok
returns-in-Ok g c =
    let ready = c.in_ok-ready.ready in
    grounded ready.task ready.grounded c.in_ok-ready.ensures.task c.in_ok-ready.ensures.ready
    (run c.in-Ok.proved (subst (λ (t : Task). Proves t c.args.horizon c.args.budget c.in-Ok.proved) c.task.ensures c.in-Ok.ensures.proved) c.run_ending.ensures)

pub returns-in-Err-Literals : goal.returns-in-Err-Literals
returns-in-Err-Literals g c =
    let ready = c.in_ok-ready.ready in
    let count = c.in-Err-Literals.count in
    grounded ready.task ready.grounded c.in_ok-ready.ensures.task c.in_ok-ready.ensures.ready
    (not_run count (subst (λ (t : Task). HasTooMany t c.args.horizon count) c.task.ensures (c.in-Err-Literals.ensures.literals count (ap Err c.in-Err-Literals.field-0-is))) refl)
