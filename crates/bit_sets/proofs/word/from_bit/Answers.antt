use Rattle.bit_sets.proofs.published.WordLaw.{from_has}
use Rattle.bit_sets.proofs.word.from_bit.Goals as goal

pub returns : goal.returns
returns c k = from_has c.args.word c.args.bit k c.requires c.ranges.word.fits
