use Rattle.std.proofs.Common.{arith, length, ap, ◌∙◌}
use Rattle.step_chains.proofs.IndexLaw.{all_empty, no_other}
use Rattle.step_chains.proofs.index.LinkIndex.clear.Goals as goal

pub clear_touched-requires-clause-long : goal.clear_touched-requires-clause-long
clear_touched-requires-clause-long c = ap length c.self.view_is ∙ c.requires

pub invariant_of-self : goal.invariant_of-self
invariant_of-self c = (λ k t. c.clear_touched.ensures.empty k, no_other _ _ c.clear.ensures)

pub returns-clause-long : goal.returns-clause-long
returns-clause-long c = c.clear_touched.ensures.long ∙ ap length c.self.view_is

pub returns-clause-empty : goal.returns-clause-empty
returns-clause-empty c = all_empty c.clear_touched.new.lists.items (length c.clear_touched.new.lists.items) (omega arith) (λ k lt. c.clear_touched.ensures.empty k)
