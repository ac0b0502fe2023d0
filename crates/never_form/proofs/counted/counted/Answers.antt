use Rattle.never_form.proofs.Turns.{counted_more}
use Rattle.never_form.proofs.counted.counted.Goals as goal

pub loop-number-preserved : goal.loop-number-preserved
loop-number-preserved c = counted_more c.args.clauses.now c.loop-number.number c.at.result.now c.loop-number.count c.few.result c.args.begun c.at.ensures c.few.ensures.fewer c.few.ensures.exact c.loop-number.invariant
