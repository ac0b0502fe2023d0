use Rattle.std.proofs.Common.{append-nil}
use Rattle.plan_top.specs.declared.parts.Part.TheVariants.{Ends}
use Rattle.plan_top.proofs.Batches.{more_prepared}
use Rattle.plan_top.proofs.parts.Prepared.push_end.Goals as goal

pub returns-clause-part : goal.returns-clause-part
returns-clause-part c domain problems problem are is =
    rw c.in_ok-push.ensures.items (rw append-nil at (more_prepared domain problems c.args.self.now.ended.items c.args.self.now.runs.items problem (Ends c.args.end) are is))
