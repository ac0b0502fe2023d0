use Rattle.clause_base.proofs.published.ViewLemmas.{rising_moved}
use Rattle.clause_base.proofs.view.View.moved.Goals as goal

pub invariant_of-result : goal.invariant_of-result
invariant_of-result c = rising_moved c.args.limit c.args.low c.args.high c.args.lits.now c.requires.codes c.requires.rising
