use Rattle.commands.specs.Tasks.{OnceRead, read}
use Rattle.commands.specs.Answers.{AnswersCheck}
use Rattle.plan_endings.proofs.published.Stopped.{EndsAs-weaker}
use Rattle.commands.proofs.Answered.{refused_handed}
use Rattle.commands.proofs.answer.answer_check.Goals as goal

pub returns-in_err-task : goal.returns-in_err-task
returns-in_err-task c =
    refused_handed c.args.domain.now c.args.problem.now (λ task. AnswersCheck task c.args.plan.now) c.in_err-task.field-0.0 c.from_residual.result c.from_residual.ensures.1 c.in_err-task.ensures.stops

pub returns : goal.returns
returns c =
    EndsAs-weaker (AnswersCheck c.in_ok-task.task c.args.plan.now) (OnceRead c.args.domain.now c.args.problem.now (λ task. AnswersCheck task c.args.plan.now))
    (λ end h. read c.in_ok-task.task c.in_ok-task.ensures.task h) c.check_task.result c.check_task.ensures
