use Rattle.bit_sets.proofs.published.WordLaw.{and_not_has}
use Rattle.bit_sets.proofs.word.without.Goals as goal

pub returns : goal.returns
returns c k = and_not_has c.args.word c.args.other k c.ranges.word.fits c.ranges.other.fits
