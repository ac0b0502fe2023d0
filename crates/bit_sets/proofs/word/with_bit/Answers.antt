use Rattle.bit_sets.proofs.published.WordLaw.{set_same, set_other}
use Rattle.bit_sets.proofs.word.with_bit.Goals as goal

pub returns-clause-same : goal.returns-clause-same
returns-clause-same c = set_same c.args.word c.args.bit c.requires

pub returns-clause-others : goal.returns-clause-others
returns-clause-others c = set_other c.args.word c.args.bit c.requires
