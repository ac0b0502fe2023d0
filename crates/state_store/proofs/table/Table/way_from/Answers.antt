use Rattle.std.proofs.Common.{arith, ◌≡◌, length, sym}
use Rattle.state_store.specs.own.Table.{link}
use Rattle.state_store.proofs.TreeLaw.{ends_on, link_within}
use Rattle.state_store.proofs.table.Table.way_from.Goals as goal

pub loop-node-preserved : goal.loop-node-preserved
loop-node-preserved c =
    let nodes = c.args.self.now.nodes in
    let is : link nodes c.args.row.now c.loop-node.node ≡ c.link-next.result = sym (c.link-next.ensures nodes c.loop-node.node c.node.ensures) in
    let below = link_within c.args.rows.now.width c.args.self.now.heads nodes c.args.rows.now.rows (length nodes) c.args.row.now c.loop-node.node c.requires.trees c.loop-node.invariant.within in
    record {
      within = omega (arith, is, below);
      on = λ last leaf ends. c.loop-node.invariant.on last leaf (ends_on nodes c.args.row.now c.loop-node.node c.link-next.result last leaf is (omega (arith, c.if-next-node.false)) ends);
    }
