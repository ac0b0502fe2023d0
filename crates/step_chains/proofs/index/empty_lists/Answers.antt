use Rattle.std.proofs.Common.{of_calls, []}
use Rattle.step_chains.proofs.index.empty_lists.Goals as goal

pub returns : goal.returns
returns c = c.in_ok-items_of.ensures [] (λ before made after called. search of_calls)
