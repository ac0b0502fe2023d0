use Rattle.pd_sexp.specs.View.{view}
use Rattle.plan_endings.specs.declared.ending.File.TheVariants.{Problem}
use Rattle.plan_tasks.specs.Tasks.{RefusesTree, RefusesTrees, RefusesTask, problem_tree, no_task}
use Rattle.plan_endings.proofs.published.Stopped.{Stops-handed, StopsBy-weaker}
use Rattle.plan_tasks.proofs.task.task_with.Goals as goal

pub returns-in_err-second-clause-stops : goal.returns-in_err-second-clause-stops
returns-in_err-second-clause-stops c domain reads =
    Stops-handed (RefusesTree c.args.problem.now Problem) (RefusesTask domain c.args.problem.now) (λ end h. problem_tree (view c.args.first.now) reads h) c.in_err-second.field-0.0 c.from_residual.result
    c.from_residual.ensures.1 c.in_err-second.ensures.stops

pub returns-clause-stops : goal.returns-clause-stops
returns-clause-stops c domain reads =
    StopsBy-weaker (RefusesTrees (view c.args.first.now) (view c.in_ok-second.second)) (RefusesTask domain c.args.problem.now)
    (λ end h. no_task (view c.args.first.now) (view c.in_ok-second.second) reads c.in_ok-second.ensures.tree h) c.task_of.result c.task_of.ensures.stops
