use Rattle.step_chains.proofs.IndexLaw.{none_touched, no_other}
use Rattle.step_chains.proofs.index.LinkIndex.new.Goals as goal

pub invariant_of-result : goal.invariant_of-result
invariant_of-result c = (none_touched _ _ c.in_ok-lists.lists.items c.in_ok-lists.ensures, no_other _ _ c.new.ensures.empty)
