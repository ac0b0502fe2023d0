use Rattle.requests.proofs.Chain.{then_added}
use Rattle.requests.proofs.command.put_options.Goals as goal

pub returns : goal.returns
returns c = then_added _ _ _ _ _ c.in_ok-put_race.ensures c.in_ok-put.ensures
