use Rattle.clause_base.proofs.JoinedLemmas.{joined_by}
use Rattle.clause_base.proofs.formula.Formula.add_sorted.Goals as goal

pub invariant_of-self : goal.invariant_of-self
invariant_of-self c = joined_by c.add_sorted.result _ _ _ _ _ _ _ _ c.self.view_is c.self.invariant c.requires.room c.requires.below c.add_sorted.ensures.ok c.add_sorted.ensures.err
