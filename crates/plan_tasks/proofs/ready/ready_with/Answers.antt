use Rattle.plan_tasks.specs.Tasks.{RefusesTask, TellsOver, StopsTask, refused, past}
use Rattle.plan_endings.proofs.published.Stopped.{Stops-handed}
use Rattle.plan_tasks.proofs.ready.ready_with.Goals as goal

pub returns-in_err-task-clause-stops : goal.returns-in_err-task-clause-stops
returns-in_err-task-clause-stops c domain reads =
    Stops-handed (RefusesTask domain c.args.problem.now) (StopsTask domain c.args.problem.now) (λ end h. refused h) c.in_err-task.field-0.0 c.from_residual.result c.from_residual.ensures.1 (c.in_err-task.ensures.stops domain reads)

pub returns-in_err-grounded-clause-stops : goal.returns-in_err-grounded-clause-stops
returns-in_err-grounded-clause-stops c domain reads =
    Stops-handed (TellsOver c.in_ok-task.task) (StopsTask domain c.args.problem.now) (λ end h. past c.in_ok-task.task (c.in_ok-task.ensures.task domain reads) h) c.in_err-grounded.field-0.0
    c.from_residual-in_err-grounded.result c.from_residual-in_err-grounded.ensures.1 c.in_err-grounded.ensures.stops
