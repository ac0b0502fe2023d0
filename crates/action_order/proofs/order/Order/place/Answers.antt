use Rattle.std.proofs.Common.{◌≡◌, length, vec_len, rules}
use Rattle.std.proofs.lemmas.List.{get_or_read}
use Rattle.action_order.proofs.OrderLaw.{placed_at}
use Rattle.action_order.proofs.order.Order.place.Goals as goal

pub index-requires : goal.index-requires
index-requires c =
    let long : vec_len c.self.inside.places ≡ length c.self.inside.places.items = search rules in
    let p = placed_at _ _ _ _ c.args.a c.self.invariant (rw (← c.self.view_is) at c.requires) in
    rw long p.0

pub returns : goal.returns
returns c =
    let p = placed_at _ _ _ _ c.args.a c.self.invariant (rw (← c.self.view_is) at c.requires) in
    let read = get_or_read c.self.inside.places.items c.args.a c.index.result.now p.0 c.index.ensures 0 in
    rw (← c.self.view_is, read) p.1
