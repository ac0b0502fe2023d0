use Rattle.std.proofs.Common.{arith, None}
use Rattle.cdcl_tables.specs.Linked.{placed}
use Rattle.cdcl_tables.proofs.ChainWalks.{walk_below, placed_none}
use Rattle.cdcl_tables.proofs.chains.Chains.move_to.Goals as goal

pub link-requires-clause-node : goal.link-requires-clause-node
link-requires-clause-node c =
    let inside = walk_below c.args.self.now.heads.items c.args.self.now.nodes.items c.requires.walk.0 c.args.code c.args.place.node c.requires.walk.1 c.args.place c.requires.walk.2 in
    omega (arith, inside, c.drop_at-next.ensures.nodes)

pub link-requires-clause-off : goal.link-requires-clause-off
link-requires-clause-off c =
    let on = c.requires.walk.0 in
    record {
      on = placed c.args.place.node None on;
      linked = (c.drop_at-next.ensures.walk on c.requires.walk.1 c.requires.walk.2).linked;
      off = placed_none c.args.place.node on;
    }
