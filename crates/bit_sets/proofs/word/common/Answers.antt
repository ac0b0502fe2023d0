use Rattle.bit_sets.proofs.published.WordLaw.{and_has}
use Rattle.bit_sets.proofs.word.common.Goals as goal

pub returns : goal.returns
returns c k = and_has c.args.word c.args.other k
