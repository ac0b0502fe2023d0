use Rattle.cdcl_defs.proofs.RunLaws.{across_cuts, after_unique}
use Rattle.cdcl_defs.proofs.law.cuts_are_free.Goals as goal

pub returns-clause-across : goal.returns-clause-across
returns-clause-across c = across_cuts

pub returns-clause-unique : goal.returns-clause-unique
returns-clause-unique c = after_unique
