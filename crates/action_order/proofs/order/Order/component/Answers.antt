use Rattle.std.proofs.Common.{arith, ◌≡◌, ◌<◌, length, vec_len, ◌∙◌, rules}
use Rattle.std.proofs.lemmas.List.{get_or_read}
use Rattle.action_order.proofs.OrderLaw.{placed_at}
use Rattle.action_order.proofs.order.Order.component.Goals as goal

pub index-requires : goal.index-requires
index-requires c =
    let long : vec_len c.self.inside.names ≡ length c.self.inside.names.items = search rules in
    let o = c.self.invariant in
    let p = placed_at _ _ _ _ c.args.a o (rw (← c.self.view_is) at c.requires) in
    let lt = p.0 in let n = o.names_long in omega arith

pub returns : goal.returns
returns c =
    let o = c.self.invariant in
    let i = rw (← c.self.view_is) at c.requires in
    let p = placed_at _ _ _ _ c.args.a o i in
    let lt : c.args.a < length c.self.inside.names.items = let l = p.0 in let n = o.names_long in omega arith in
    let read = get_or_read c.self.inside.names.items c.args.a c.index.result.now lt c.index.ensures 0 in
    rw (← c.self.view_is) (read ∙ o.named c.args.a (rw o.flat i))
