use Rattle.std.proofs.lemmas.Result.{IfOk-weaker}
use Rattle.commands.specs.Raced.{ended}
use Rattle.plan_top.proofs.batch.report_of.Goals as goal

pub returns-in-Ok-clause-report : goal.returns-in-Ok-clause-report
returns-in-Ok-clause-report c = IfOk-weaker c.reported.result _ _ (λ e told. ended c.in-Ok.end (rw c.in-Ok.is at c.requires.came) told.0 told.1) c.reported.ensures.told
