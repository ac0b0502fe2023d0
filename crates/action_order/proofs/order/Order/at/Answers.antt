use Rattle.std.proofs.lemmas.List.{get_or_read}
use Rattle.action_order.proofs.published.Lists.{in_at}
use Rattle.action_order.proofs.order.Order.at.Goals as goal

pub returns-clause-among : goal.returns-clause-among
returns-clause-among c =
    let o = c.self.invariant in
    let below = rw (← c.self.view_is, ← o.flat) at c.requires in
    let read = get_or_read c.self.inside.order.items c.args.place c.index.result.now below c.index.ensures 0 in
    rw (← c.self.view_is, ← o.flat, read) (in_at c.self.inside.order.items c.args.place below)
