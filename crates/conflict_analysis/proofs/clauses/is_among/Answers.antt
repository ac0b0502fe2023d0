use Rattle.std.proofs.Common.{◌∙◌}
use Rattle.conflict_analysis.proofs.Among.{among}
use Rattle.conflict_analysis.proofs.clauses.is_among.Goals as goal

pub returns : goal.returns
returns c = c.is_ok.ensures.value ∙ among c.args.numbers.now c.args.number c.binary_search.result c.binary_search.ensures.position c.requires
