use Rattle.plan_tasks.proofs.task.read_task.Goals as goal

pub returns-clause-stops : goal.returns-clause-stops
returns-clause-stops c = c.task_with.ensures.stops c.args.domain.now c.in_ok-first.ensures.tree
