use Rattle.std.proofs.Common.{arith, ◌≡◌, ◌∙◌, sym, ap, length}
use Rattle.containers.proofs.PieceLemmas.{length-pieces}
use Rattle.containers.proofs.flat_lists.FlatLists.at.Goals as goal

pub list_at-requires-clause-in_range : goal.list_at-requires-clause-in_range
list_at-requires-clause-in_range g c =
    let long : length c.args.self.now ≡ length c.deref-2.result.now =
    ap length (sym c.self.view_is)
    ∙ length-pieces 0 c.self.inside.items.items c.self.inside.ends.items
    ∙ ap length (sym c.deref-2.ensures.value) in
    omega (arith, long, c.requires)
