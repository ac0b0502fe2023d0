use Rattle.std.proofs.Common.{refl}
use Rattle.cdcl_tables.proofs.ChainWalks.{walk_after, next_read}
use Rattle.cdcl_tables.proofs.chains.Chains.after.Goals as goal

pub returns : goal.returns
returns c on code rest w =
    let nodes = c.args.self.now.nodes.items in
    walk_after c.args.self.now.heads.items nodes on code c.args.place.node rest c.args.place
    (record { before = c.args.place.node; node = c.index.result.now.next }) refl
    (next_read nodes c.args.place.node c.index.result.now c.requires c.index.ensures) w
