use Rattle.std.proofs.Common.{arith, ◌∙◌}
use Rattle.std.proofs.lemmas.List.{length-set}
use Rattle.action_order.specs.own.Graph.{item}
use Rattle.gt_core.proofs.published.Lists.{each_number}
use Rattle.action_order.proofs.OrderLaw.{placed_more}
use Rattle.action_order.proofs.publish.places_of.Goals as goal

pub loop-p-preserved : goal.loop-p-preserved
loop-p-preserved c =
    let i = c.loop-p.invariant in
    record {
      long = length-set c.loop-p.places.items (item c.args.order.now c.loop-p.p) c.loop-p.p ∙ i.long;
      placed = placed_more c.args.order.now c.loop-p.places.items c.args.count c.loop-p.p i.long (omega arith) (each_number _ c.args.order.now c.loop-p.p 0 c.requires.below (omega arith)) c.requires.unequal i.placed;
    }
