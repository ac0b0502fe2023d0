use Rattle.pd_plan.proofs.Lookups.{looked_up_more}
use Rattle.pd_plan.proofs.names.NameNumbers.with.Goals as goal

pub returns-in-Ok-clause-with : goal.returns-in-Ok-clause-with
returns-in-Ok-clause-with c = λ other.
    rw (c.in-Ok.ensures.added, c.in_ok-push.ensures.items) (looked_up_more c.args.self.table c.args.self.firsts.items c.args.name.now c.args.number other c.args.self.whole)
