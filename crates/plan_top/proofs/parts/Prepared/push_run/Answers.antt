use Rattle.plan_top.specs.declared.parts.Part.TheVariants.{Runs}
use Rattle.plan_top.proofs.Batches.{more_prepared}
use Rattle.plan_top.proofs.parts.Prepared.push_run.Goals as goal

pub returns-clause-part : goal.returns-clause-part
returns-clause-part c domain problems problem are is =
    rw (c.in_ok-push.ensures.items, c.in_ok-push-2.ensures.items) (more_prepared domain problems c.args.self.now.ended.items c.args.self.now.runs.items problem (Runs c.args.run) are is)
