use Rattle.std.proofs.Common.{arith, ◌∙◌, ap, Some}
use Rattle.state_store.proofs.TableLaw.{end_within, head_within}
use Rattle.state_store.proofs.table.Table.spot.Goals as goal

pub way_from-end-requires-clause-head : goal.way_from-end-requires-clause-head
way_from-end-requires-clause-head c =
    head_within c.args.rows.now.width c.args.self.now.heads c.args.self.now.nodes c.args.rows.now.rows c.args.row.now c.head-head.result c.requires.trees c.head-head.ensures.within c.head-head.ensures.head c.if-head.false

pub at-requires : goal.at-requires
at-requires c =
    let head = head_within c.args.rows.now.width c.args.self.now.heads c.args.self.now.nodes c.args.rows.now.rows c.args.row.now c.head-head.result c.requires.trees c.head-head.ensures.within c.head-head.ensures.head c.if-head.false in
    let end = end_within c.args.rows.now.width c.args.self.now.heads c.args.self.now.nodes c.args.rows.now.rows c.args.row.now _ _ _ c.requires.trees head c.way_from-end.ensures in
    let leaf = end.1 in
    omega (arith, leaf, c.requires.rows)

pub returns-in-None : goal.returns-in-None
returns-in-None c =
    let head = head_within c.args.rows.now.width c.args.self.now.heads c.args.self.now.nodes c.args.rows.now.rows c.args.row.now c.head-head.result c.requires.trees c.head-head.ensures.within c.head-head.ensures.head c.if-head.false in
    let end = end_within c.args.rows.now.width c.args.self.now.heads c.args.self.now.nodes c.args.rows.now.rows c.args.row.now _ _ _ c.requires.trees head c.way_from-end.ensures in
    (end.1, c.at.ensures.row ∙ ap Some c.in-None.ensures)
