use Rattle.std.proofs.Common.{◌∙◌}
use Rattle.implied_literals.proofs.asked.contradiction.Goals as goal

pub returns : goal.returns
returns c = λ free. free 0 (c.in_ok-insert-2.ensures.has 0 ∙ c.in_ok-insert.ensures.has 0) (c.in_ok-insert-2.ensures.has 1)
