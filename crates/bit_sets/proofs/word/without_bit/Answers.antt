use Rattle.bit_sets.proofs.published.WordLaw.{clear_same, clear_other, cleared_kept}
use Rattle.bit_sets.proofs.word.without_bit.Goals as goal

pub returns-clause-same : goal.returns-clause-same
returns-clause-same c = clear_same c.args.word c.args.bit c.requires

pub returns-clause-others : goal.returns-clause-others
returns-clause-others c = clear_other c.args.word c.args.bit c.requires c.ranges.word.fits

pub returns-clause-kept : goal.returns-clause-kept
returns-clause-kept c = cleared_kept c.args.word c.args.bit
