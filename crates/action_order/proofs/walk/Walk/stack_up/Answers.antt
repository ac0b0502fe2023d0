use Rattle.action_order.proofs.WalkLaw.{stacked_sets}
use Rattle.action_order.proofs.walk.Walk.stack_up.Goals as goal

pub returns-clause-sets : goal.returns-clause-sets
returns-clause-sets c = stacked_sets c.args.self.now.marks.items _ _ _ _ c.args.v c.len-place.result c.requires.sets c.requires.vertex c.remove.ensures.has c.in_ok-insert.ensures.has
