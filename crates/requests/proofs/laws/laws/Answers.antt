use Rattle.requests.proofs.Numbers.{numbers_settle}
use Rattle.requests.proofs.laws.laws.Goals as goal

pub returns : goal.returns
returns c = numbers_settle
