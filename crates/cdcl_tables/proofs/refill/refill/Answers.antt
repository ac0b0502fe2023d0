use Rattle.cdcl_tables.proofs.Refilled.{filled}
use Rattle.cdcl_tables.proofs.refill.refill.Goals as goal

pub returns : goal.returns
returns g c = filled _ _ _ _ c.args.count c.args.item c.in_ok-resize.ensures.items c.clear.ensures.items c.clear.ensures.len
