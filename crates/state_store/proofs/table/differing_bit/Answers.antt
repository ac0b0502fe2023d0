use Rattle.state_store.proofs.BitLaw.{xor_tells}
use Rattle.state_store.proofs.table.differing_bit.Goals as goal

pub returns : goal.returns
returns c = (c.least_bit.ensures.small, xor_tells c.args.word c.args.other c.least_bit.result c.least_bit.ensures.least.0)
