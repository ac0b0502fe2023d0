use Rattle.formula_defs.proofs.published.CodedLaw.{encoded, decoded}
use Rattle.formula_defs.proofs.laws.laws.Goals as goal

pub returns-clause-enough : goal.returns-clause-enough
returns-clause-enough c = decoded

pub returns-clause-no_more : goal.returns-clause-no_more
returns-clause-no_more c = encoded
