use Rattle.std.proofs.Common.{◌∙◌}
use Rattle.never_text.proofs.Written.{one_clause}
use Rattle.never_text.proofs.write.put_clauses.Goals as goal

pub loop-number-preserved : goal.loop-number-preserved
loop-number-preserved c = c.loop-number.invariant ∙ one_clause c.args.clauses.now c.loop-number.number c.at.result.now c.loop-number.text.items c.put_clause.new.text.items c.at.ensures c.in_ok-put_clause.ensures
