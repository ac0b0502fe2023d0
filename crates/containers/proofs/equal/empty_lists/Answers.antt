use Rattle.std.proofs.Common.{of_calls, []}
use Rattle.containers.proofs.equal.empty_lists.Goals as goal

pub returns : goal.returns
returns g c = c.items_of.ensures [] (λ before made after called. search of_calls)
