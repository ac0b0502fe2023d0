use Rattle.std.proofs.Common.{arith}
use Rattle.propagation.proofs.scan.only_ask.Goals as goal

pub returns : goal.returns
returns c on = c.first_ask.ensures on (λ p some inside. absurd (omega (arith, some, inside, c.requires)))
