use Rattle.std.proofs.Common.{◌≡◌, ◌∙◌, sym, ap, length, rules}
use Rattle.containers.proofs.PieceLemmas.{length-pieces}
use Rattle.containers.proofs.flat_lists.FlatLists.len.Goals as goal

pub returns : goal.returns
returns g c =
    let long : c.len.result ≡ length c.self.inside.ends.items = search rules in
    long ∙ sym (length-pieces 0 c.self.inside.items.items c.self.inside.ends.items) ∙ ap length c.self.view_is
