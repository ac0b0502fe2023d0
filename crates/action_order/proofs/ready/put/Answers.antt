use Rattle.action_order.proofs.ReadyLaw.{with_key}
use Rattle.action_order.proofs.ready.put.Goals as goal

pub returns : goal.returns
returns c = rw c.in_ok-insert.ensures.keys (with_key _ c.args.name)
