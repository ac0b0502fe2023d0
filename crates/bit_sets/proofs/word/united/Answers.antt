use Rattle.bit_sets.proofs.published.WordLaw.{or_has}
use Rattle.bit_sets.proofs.word.united.Goals as goal

pub returns : goal.returns
returns c k = or_has c.args.word c.args.other k
